-- How the lines of a verdict grow.
use Rattle.std.proofs.Common.{◌≡◌, ℕ, ◌+◌, ◌<◌, List, [], ◌∷◌, ◌++◌, length, get_or, map, take, refl, sym, ap, ◌∙◌, arith, append_assoc}
use Rattle.std.proofs.lemmas.List.{length-map, map_more, length-take-le}
use Rattle.std.specs.List.{join_with_byte}
use Rattle.streamcode.specs.Verdict.{separator}

-- one piece more
join-next : (c : ℕ) (xs : List (List ℕ)) (x : List ℕ) → join_with_byte c xs ++ (separator c (length xs) ++ x) ≡ join_with_byte c (xs ++ x ∷ [])
join-next c [] x = refl
join-next c (y ∷ []) x = refl
join-next c (y ∷ z ∷ xs) x = append_assoc y (c ∷ join_with_byte c (z ∷ xs)) (c ∷ x) ∙ ap (λ l. y ++ (c ∷ l)) (join-next c (z ∷ xs) x)

pub join-take : {A : Type 0} (c : ℕ) (f : A → List ℕ) (xs : List A) (i : ℕ) (d : A) → i < length xs
    → join_with_byte c (map f (take i xs)) ++ (separator c i ++ f (get_or xs i d)) ≡ join_with_byte c (map f (take (i + 1) xs))
join-take c f xs i d h =
    let n : length (map f (take i xs)) ≡ i = length-map (take i xs) f ∙ length-take-le i xs (omega (arith, h)) in
    ap (λ (m : ℕ). join_with_byte c (map f (take i xs)) ++ (separator c m ++ f (get_or xs i d))) (sym n)
    ∙ join-next c (map f (take i xs)) (f (get_or xs i d))
    ∙ ap (join_with_byte c) (sym (map_more f xs i d h))

-- behind a text
pub join-behind : {A : Type 0} (c : ℕ) (f : A → List ℕ) (xs : List A) (i : ℕ) (d : A) (text start mid end : List ℕ) → i < length xs → text ≡ start ++ join_with_byte c (map f (take i xs))
    → mid ≡ text ++ separator c i → end ≡ mid ++ f (get_or xs i d) → end ≡ start ++ join_with_byte c (map f (take (i + 1) xs))
join-behind c f xs i d text start mid end h text_is mid_is end_is =
    end_is ∙ ap (λ l. l ++ f (get_or xs i d)) (mid_is ∙ ap (λ l. l ++ separator c i) text_is)
    ∙ append_assoc (start ++ join_with_byte c (map f (take i xs))) (separator c i) (f (get_or xs i d))
    ∙ append_assoc start (join_with_byte c (map f (take i xs))) (separator c i ++ f (get_or xs i d))
    ∙ ap (λ l. start ++ l) (join-take c f xs i d h)
