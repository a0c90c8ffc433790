use Rattle.std.proofs.Common.{◌≡◌, ℕ, true, false, List, ◌∷◌, Bor, bytes_eq, map, refl, sym, ◌∙◌}
use Rattle.std.proofs.lemmas.List.{at_drop_more}
use Rattle.sc_codefile.specs.Value.{is_among}
use Rattle.sc_codefile.proofs.numbers.is_among.Goals as goal

among_first : (k x : List ℕ) (xs : List (List ℕ)) → bytes_eq k x ≡ true → is_among (x ∷ xs) k ≡ true
among_first k x xs e = rw e refl

among_rest : (k x : List ℕ) (xs : List (List ℕ)) → bytes_eq k x ≡ false → is_among (x ∷ xs) k ≡ is_among xs k
among_rest k x xs e = rw e refl

pub returns-then-eq : goal.returns-then-eq
returns-then-eq c =
    let k = c.args.key.now in
    sym (c.loop-known.invariant
    ∙ at_drop_more (λ (l : List (Bor (List ℕ))). is_among (map (λ key. key.now) l) k) c.args.keys.now c.loop-known.known-index _ c.loop-known-test.true
    ∙ among_first k _ _ (sym c.if-eq.ensures))

pub loop-known-preserved : goal.loop-known-preserved
loop-known-preserved c =
    let k = c.args.key.now in
    c.loop-known.invariant
    ∙ at_drop_more (λ (l : List (Bor (List ℕ))). is_among (map (λ key. key.now) l) k) c.args.keys.now c.loop-known.known-index _ c.loop-known-test.true
    ∙ among_rest k _ _ (sym c.if-eq.ensures)
