-- Vectors under any operations: their lengths, their entries, and maps of them.
use Rattle.std.proofs.Common.{◌≡◌, ℕ, zero as none, suc, ◌+◌, ◌-◌, ◌<◌, ◌≤◌, List, [], ◌∷◌, ◌++◌, length, get_or, set, map, take, drop, replicate, All, refl, ◌∙◌, ap, ap₂, arith}
use Rattle.std.proofs.lemmas.List.{drop_more, length-map, length-replicate, length-append, length-take-le, length-drop, length-set, get_or-map, get_or-replicate}
use Rattle.std.proofs.lemmas.List.Elements.{All-nil, All-head, All-tail, All-cons, All-map, All-replicate, All-append, All-take, All-drop, All-set}
use Rattle.sc_matrix.specs.Vector.{IsVector, add_vectors, scale_vector, dot, combination}

-- ---- vectors of entries of one kind
module _ {A : Type 0} {P : A → Type 0} where
  pub head : {n : ℕ} {x : A} {xs : List A} → IsVector P n (x ∷ xs) → P x
  head {x = x} {xs = xs} h = All-head P x xs h.entries

  pub tail : {n : ℕ} {x : A} {xs : List A} → IsVector P n (x ∷ xs) → IsVector P (n - 1) xs
  tail {n = n} {x = x} {xs = xs} h = let w = h.width in record { width = omega arith; entries = All-tail P x xs h.entries }

  pub vector_of : (xs : List A) → All P xs → IsVector P (length xs) xs
  vector_of xs h = record { width = refl; entries = h }

  pub entry_at : {n : ℕ} {xs : List A} (i : ℕ) (d : A) → IsVector P n xs → i < n → P (get_or xs i d)
  entry_at i d h lt = let w = h.width in h.entries i d (omega arith)

  pub IsVector-replicate : (n : ℕ) (x : A) → P x → IsVector P n (replicate n x)
  IsVector-replicate n x hx = record { width = length-replicate n x; entries = All-replicate P n x hx }

  pub IsVector-append : {m n : ℕ} (xs ys : List A) → IsVector P m xs → IsVector P n ys → IsVector P (m + n) (xs ++ ys)
  IsVector-append {m = m} {n = n} xs ys h k =
      let l = length-append xs ys in
      let v = h.width in
      let w = k.width in
      record { width = omega arith; entries = All-append P xs ys h.entries k.entries }

  pub IsVector-take : {n : ℕ} (k : ℕ) (xs : List A) → IsVector P n xs → k ≤ n → IsVector P k (take k xs)
  IsVector-take {n = n} k xs h le = let w = h.width in record { width = length-take-le k xs (omega arith); entries = All-take P k xs h.entries }

  pub IsVector-drop : {n : ℕ} (k : ℕ) (xs : List A) → IsVector P n xs → IsVector P (n - k) (drop k xs)
  IsVector-drop {n = n} k xs h = let w = h.width in let l = length-drop k xs in record { width = omega arith; entries = All-drop P k xs h.entries }

  pub IsVector-set : {n : ℕ} (xs : List A) (i : ℕ) (x : A) → IsVector P n xs → P x → IsVector P n (set xs i x)
  IsVector-set {n = n} xs i x h hx = record { width = length-set xs i x ∙ h.width; entries = All-set P xs i x hx h.entries }

  pub IsVector-map : {B : Type 0} {Q : B → Type 0} {n : ℕ} (f : A → B) (xs : List A) → ((x : A) → P x → Q (f x)) → IsVector P n xs → IsVector Q n (map f xs)
  IsVector-map {Q = Q} f xs each h =
      record { width = length-map xs f ∙ h.width; entries = All-map Q f xs (λ k d lt. each (get_or xs k d) (h.entries k d lt)) }

  pub IsVector-add_vectors : (add : A → A → A) (xs ys : List A) {n : ℕ} → ((x y : A) → P x → P y → P (add x y)) → IsVector P n xs → IsVector P n ys → IsVector P n (add_vectors add xs ys)
  IsVector-add_vectors add [] ys each h k = record { width = h.width; entries = All-nil P }
  IsVector-add_vectors add (x ∷ xs) [] {n = n} each h k = absurd (omega (arith, h.width, k.width))
  IsVector-add_vectors add (x ∷ xs) (y ∷ ys) {n = n} each h k =
      let t : IsVector P (n - 1) (add_vectors add xs ys) = IsVector-add_vectors add xs ys each (tail h) (tail k) in
      record { width = omega (arith, h.width, t.width); entries = All-cons P _ _ (each x y (head h) (head k)) t.entries }

  -- ---- maps of the entries
  pub map_same : {B : Type 0} (f g : A → B) (xs : List A) {n : ℕ} → ((x : A) → P x → f x ≡ g x) → IsVector P n xs → map f xs ≡ map g xs
  map_same f g [] each h = refl
  map_same {B = B} f g (x ∷ xs) each h = ap₂ (λ (y : B) (ys : List B). y ∷ ys) (each x (head h)) (map_same f g xs each (tail h))

  pub map_const : {B : Type 0} (f : A → B) (y : B) (xs : List A) {n : ℕ} → ((x : A) → P x → f x ≡ y) → IsVector P n xs → map f xs ≡ replicate n y
  map_const f y [] each h = rw (← h.width) refl
  map_const {B = B} f y (x ∷ xs) each h = rw (← h.width) (ap₂ (λ (z : B) (zs : List B). z ∷ zs) (each x (head h)) (map_const f y xs each (vector_of xs (tail h).entries)))

  -- a sum with zeros
  pub add_vectors-none : (plus : A → A → A) (zero : A) (xs : List A) {n : ℕ} → ((x : A) → P x → plus x zero ≡ x) → IsVector P n xs → add_vectors plus xs (replicate n zero) ≡ xs
  add_vectors-none plus zero [] each h = refl
  add_vectors-none plus zero (x ∷ xs) each h =
      rw (← h.width) (ap₂ (λ (y : A) (ys : List A). y ∷ ys) (each x (head h)) (add_vectors-none plus zero xs each (vector_of xs (tail h).entries)))

  pub add_vectors-comm : (plus : A → A → A) (us vs : List A) {m n : ℕ} → ((u v : A) → P u → P v → plus u v ≡ plus v u) → IsVector P m us → IsVector P n vs → add_vectors plus us vs ≡ add_vectors plus vs us
  add_vectors-comm plus (u ∷ us) (v ∷ vs) each hu hv = ap₂ (λ (x : A) (xs : List A). x ∷ xs) (each u v (head hu) (head hv)) (add_vectors-comm plus us vs each (tail hu) (tail hv))
  add_vectors-comm plus [] [] each hu hv = refl
  add_vectors-comm plus [] (v ∷ vs) each hu hv = refl
  add_vectors-comm plus (u ∷ us) [] each hu hv = refl

  pub add_vectors-assoc : (plus : A → A → A) (us vs ws : List A) {m n k : ℕ} → ((u v w : A) → P u → P v → P w → plus (plus u v) w ≡ plus u (plus v w))
      → IsVector P m us → IsVector P n vs → IsVector P k ws → add_vectors plus (add_vectors plus us vs) ws ≡ add_vectors plus us (add_vectors plus vs ws)
  add_vectors-assoc plus (u ∷ us) (v ∷ vs) (w ∷ ws) each hu hv hw =
      ap₂ (λ (x : A) (xs : List A). x ∷ xs) (each u v w (head hu) (head hv) (head hw)) (add_vectors-assoc plus us vs ws each (tail hu) (tail hv) (tail hw))
  add_vectors-assoc plus us vs ws each hu hv hw = refl

  -- the sum of two maps
  pub map-plus : {B : Type 0} (plus : B → B → B) (f g h : A → B) (xs : List A) {n : ℕ} → ((x : A) → P x → f x ≡ plus (g x) (h x)) → IsVector P n xs → map f xs ≡ add_vectors plus (map g xs) (map h xs)
  map-plus plus f g h [] each v = refl
  map-plus {B = B} plus f g h (x ∷ xs) each v = ap₂ (λ (y : B) (ys : List B). y ∷ ys) (each x (head v)) (map-plus plus f g h xs each (tail v))

  -- a map that takes sums to sums
  pub map-add_vectors : {B : Type 0} (add : A → A → A) (plus : B → B → B) (f : A → B) (xs ys : List A) {m n : ℕ} → ((x y : A) → P x → P y → f (add x y) ≡ plus (f x) (f y)) → IsVector P m xs → IsVector P n ys → map f (add_vectors add xs ys) ≡ add_vectors plus (map f xs) (map f ys)
  map-add_vectors add plus f [] ys each h k = refl
  map-add_vectors add plus f (x ∷ xs) [] each h k = refl
  map-add_vectors {B = B} add plus f (x ∷ xs) (y ∷ ys) each h k =
      ap₂ (λ (z : B) (zs : List B). z ∷ zs) (each x y (head h) (head k)) (map-add_vectors add plus f xs ys each (tail h) (tail k))

pub map-map : {A B C : Type 0} (f : B → C) (g : A → B) (xs : List A) → map f (map g xs) ≡ map (λ (x : A). f (g x)) xs
map-map f g [] = refl
map-map {C = C} f g (x ∷ xs) = ap (λ (ys : List C). f (g x) ∷ ys) (map-map f g xs)

pub map_ext : {A B : Type 0} (f g : A → B) (xs : List A) → ((x : A) → f x ≡ g x) → map f xs ≡ map g xs
map_ext f g [] each = refl
map_ext {B = B} f g (x ∷ xs) each = ap₂ (λ (y : B) (ys : List B). y ∷ ys) (each x) (map_ext f g xs each)

-- ---- lengths and entries
module _ {A : Type 0} where
  pub length-add_vectors : (add : A → A → A) (xs ys : List A) → length xs ≡ length ys → length (add_vectors add xs ys) ≡ length xs
  length-add_vectors add [] ys e = refl
  length-add_vectors add (x ∷ xs) [] e = absurd (omega arith)
  length-add_vectors add (x ∷ xs) (y ∷ ys) e = ap suc (length-add_vectors add xs ys (omega arith))

  pub get_or-add_vectors : (add : A → A → A) (xs ys : List A) (i : ℕ) (d : A) → length xs ≡ length ys → i < length xs → get_or (add_vectors add xs ys) i d ≡ add (get_or xs i d) (get_or ys i d)
  get_or-add_vectors add (x ∷ xs) (y ∷ ys) none d e h = refl
  get_or-add_vectors add (x ∷ xs) (y ∷ ys) (suc i) d e h = get_or-add_vectors add xs ys i d (omega arith) (omega arith)
  get_or-add_vectors add xs ys i d e h = absurd (omega arith)

  pub length-scale_vector : {C : Type 0} (mul : C → A → A) (c : C) (xs : List A) → length (scale_vector mul c xs) ≡ length xs
  length-scale_vector mul c xs = length-map xs (mul c)

  pub get_or-scale_vector : {C : Type 0} (mul : C → A → A) (c : C) (xs : List A) (i : ℕ) (d : A) → i < length xs → get_or (scale_vector mul c xs) i d ≡ mul c (get_or xs i d)
  get_or-scale_vector mul c xs i d h = get_or-map (mul c) xs i d d h

  -- the term at place k and those behind it
  pub dot_next : {C : Type 0} (zero : A) (add : A → A → A) (mul : C → A → A) (cs : List C) (vs : List A) (k : ℕ) (d : C) (e : A) → k < length cs → k < length vs
      → dot zero add mul (drop k cs) (drop k vs) ≡ add (mul (get_or cs k d) (get_or vs k e)) (dot zero add mul (drop (k + 1) cs) (drop (k + 1) vs))
  dot_next zero add mul cs vs k d e h l = ap₂ (dot zero add mul) (drop_more cs k d h) (drop_more vs k e l)

  pub dot_nil_right : {C : Type 0} (zero : A) (add : A → A → A) (mul : C → A → A) (cs : List C) → dot zero add mul cs [] ≡ zero
  dot_nil_right zero add mul [] = refl
  dot_nil_right zero add mul (c ∷ cs) = refl

  pub length-combination : {C : Type 0} {P : A → Type 0} (zero : A) (add : A → A → A) (mul : C → A → A) (n : ℕ) (cs : List C) (vs : List (List A)) {q : ℕ} → IsVector (IsVector P n) q vs → length (combination zero add mul n cs vs) ≡ n
  length-combination zero add mul n [] vs h = length-replicate n zero
  length-combination zero add mul n (c ∷ cs) [] h = length-replicate n zero
  length-combination zero add mul n (c ∷ cs) (v ∷ vs) h =
      let t = length-combination zero add mul n cs vs (tail h) in
      let s = length-scale_vector mul c v in
      let w = (head h).width in
      length-add_vectors add (scale_vector mul c v) (combination zero add mul n cs vs) (omega arith) ∙ s ∙ w

  pub get_or-combination : {C : Type 0} {P : A → Type 0} (zero : A) (add : A → A → A) (mul : C → A → A) (n : ℕ) (cs : List C) (vs : List (List A)) (j : ℕ) {q : ℕ} → IsVector (IsVector P n) q vs → j < n
      → get_or (combination zero add mul n cs vs) j zero ≡ dot zero add mul cs (map (λ (v : List A). get_or v j zero) vs)
  get_or-combination zero add mul n [] vs j h lt = get_or-replicate n j zero zero lt
  get_or-combination zero add mul n (c ∷ cs) [] j h lt = get_or-replicate n j zero zero lt
  get_or-combination zero add mul n (c ∷ cs) (v ∷ vs) j h lt =
      let t : length (combination zero add mul n cs vs) ≡ n = length-combination zero add mul n cs vs (tail h) in
      let s = length-scale_vector mul c v in
      let w = (head h).width in
      get_or-add_vectors add (scale_vector mul c v) (combination zero add mul n cs vs) j zero (omega arith) (omega arith)
      ∙ ap₂ add (get_or-scale_vector mul c v j zero (omega arith)) (get_or-combination zero add mul n cs vs j (tail h) lt)
