-- The order of vectors of lost symbols is that of the streams that they spell, and the least vector spells the least stream.
use Rattle.std.proofs.Common.{◌≡◌, ◌↔◌, ℕ, ◌+◌, ◌-◌, ◌*◌, ◌<◌, ◌≤◌, Bool, true, false, List, [], ◌∷◌, ◌++◌, length, get_or, take, drop, replicate, sym, ap, ◌∙◌, subst, arith, inl, inr}
use Rattle.std.proofs.lemmas.Bool.{cases_lt}
use Rattle.std.proofs.lemmas.List.{length-append, length-take-le, get_or-take, get_or-drop, get_or-append-add, get_or_default, same_lists, length-drop}
use Rattle.std.proofs.Math.ListN.{get_or-append}
use Rattle.sc_field.specs.Field.{IsField, IsExact}
use Rattle.sc_channel.specs.Flags.{IsSet, set_count}
use Rattle.sc_matrix.specs.Vector.{IsVector}
use Rattle.sc_echelon.specs.Kernel.{IsNonzeroBelow, IsBefore, IsLeastBelow}
use Rattle.sc_code.specs.Code.{Code}
use Rattle.sc_code.specs.Elements.{IsDecidedOver}
use Rattle.sc_window.specs.Window.{symbols_of, lost_symbols, spelled, IsZeroWhereKept}
use Rattle.sc_window.specs.Difference.{IsDifference, IsLeastStream}
use Rattle.sc_window.proofs.SpellLaws.{lost_width, kept_width, first_width, spelled-first, IsVector-lost_symbols, spelled-lost_symbols}
use Rattle.sc_window.proofs.DecideSteps.{first_nonzero, take_zeros, zeros_taken, stream_of, lost_stream, vector_of_stream, block_of_stream, decided_from_none_free}

module _ {A : Type 0} (zero : A) (number : A → ℕ) where
  -- ---- the order of lists of which a part is the same, or comes first
  pub before_behind : (p a b : List A) → IsBefore zero number a b → IsBefore zero number (p ++ a) (p ++ b)
  before_behind p a b h =
      let within = h.within in
      let l = length-append p a in
      record {
        col = length p + h.col;
        within = omega arith;
        same = λ j lt. elim (cases_lt j (length p)) [
          | inl front ↦ get_or-append p a zero j front ∙ sym (get_or-append p b zero j front)
          | inr back ↦
              let e : j ≡ length p + (j - length p) = omega arith in
              ap (λ (i : ℕ). get_or (p ++ a) i zero) e ∙ get_or-append-add p a (j - length p) zero
              ∙ h.same (j - length p) (omega arith)
              ∙ sym (ap (λ (i : ℕ). get_or (p ++ b) i zero) e ∙ get_or-append-add p b (j - length p) zero)
        ];
        less = rw (get_or-append-add p a h.col zero, get_or-append-add p b h.col zero) h.less;
      }

  pub before_front : (a b x y : List A) → length a ≡ length b → IsBefore zero number a b → IsBefore zero number (a ++ x) (b ++ y)
  before_front a b x y e h =
      let within = h.within in
      let l = length-append a x in
      record {
        col = h.col;
        within = omega arith;
        same = λ j lt. get_or-append a x zero j (omega arith) ∙ h.same j lt ∙ sym (get_or-append b y zero j (omega arith));
        less = rw (get_or-append a x zero h.col (omega arith), get_or-append b y zero h.col (omega arith)) h.less;
      }

  -- what is behind the first k entries, where these are the same
  before_rest : (k : ℕ) (u w : List A) → k ≤ length u → (h : IsBefore zero number u w) → k ≤ h.col → IsBefore zero number (drop k u) (drop k w)
  before_rest k u w le h past =
      let within = h.within in
      let l = length-drop k u in
      let e : k + (h.col - k) ≡ h.col = omega arith in
      record {
        col = h.col - k;
        within = omega arith;
        same = λ j lt. get_or-drop k u j zero ∙ h.same (k + j) (omega arith) ∙ sym (get_or-drop k w j zero);
        less = rw (get_or-drop k u (h.col - k) zero, get_or-drop k w (h.col - k) zero, e) h.less;
      }

  before_first : (k : ℕ) (u w : List A) → k ≤ length u → (h : IsBefore zero number u w) → h.col < k → IsBefore zero number (take k u) (take k w)
  before_first k u w le h lt =
      let l = length-take-le k u le in
      record {
        col = h.col;
        within = omega arith;
        same = λ j below. get_or-take k u j zero (omega arith) ∙ h.same j below ∙ sym (get_or-take k w j zero (omega arith));
        less = rw (get_or-take k u h.col zero lt, get_or-take k w h.col zero lt) h.less;
      }

  same_first : (k : ℕ) (u w : List A) → k ≤ length u → k ≤ length w → (h : IsBefore zero number u w) → k ≤ h.col → take k u ≡ take k w
  same_first k u w hu hw h past =
      let l = length-take-le k u hu in
      same_lists (take k u) (take k w) (l ∙ sym (length-take-le k w hw)) (λ i d lt.
      let below : i < k = omega arith in
      get_or-take k u i d below ∙ get_or_default u i d zero (omega arith) ∙ h.same i (omega arith) ∙ get_or_default w i zero d (omega arith) ∙ sym (get_or-take k w i d below))

  -- Streams are in the order of the vectors that spell them.
  pub before-spelled : (k : ℕ) (class : List Bool) (u w : List A) → length u ≡ k * set_count class → length w ≡ k * set_count class → IsBefore zero number u w
      → IsBefore zero number (symbols_of (spelled zero k class u)) (symbols_of (spelled zero k class w))
  before-spelled k [] u w hu hw h = let within = h.within in absurd (omega arith)
  before-spelled k (false ∷ class) u w hu hw h =
      before_behind (replicate k zero) (symbols_of (spelled zero k class u)) (symbols_of (spelled zero k class w))
      (before-spelled k class u w (kept_width k (length u) class hu) (kept_width k (length w) class hw) h)
  before-spelled k (true ∷ class) u w hu hw h =
      let lu = lost_width k (length u) class hu in
      let lw = lost_width k (length w) class hw in
      let du = length-drop k u in
      let dw = length-drop k w in
      let cu : k ≤ length u = omega arith in
      let cw : k ≤ length w = omega arith in
      elim (cases_lt h.col k) [
        | inl below ↦
            before_front (take k u) (take k w) (symbols_of (spelled zero k class (drop k u))) (symbols_of (spelled zero k class (drop k w)))
            (length-take-le k u cu ∙ sym (length-take-le k w cw)) (before_first k u w cu h below)
        | inr past ↦
            subst (λ (p : List A). IsBefore zero number (take k u ++ symbols_of (spelled zero k class (drop k u))) (p ++ symbols_of (spelled zero k class (drop k w)))) (same_first k u w cu cw h past)
            (before_behind (take k u) (symbols_of (spelled zero k class (drop k u))) (symbols_of (spelled zero k class (drop k w)))
            (before-spelled k class (drop k u) (drop k w) (omega arith) (omega arith) (before_rest k u w cu h past)))
      ]

module _ {A : Type 0} {IsElement : A → Type 0} {zero one : A} {add sub mul : A → A → A} {inv : A → A} {eq : A → A → Bool} (laws : IsField IsElement zero one add sub mul inv) (exact : IsExact IsElement eq)
    (number : A → ℕ) (code : Code A) (class : List Bool) (set : IsSet class 0) (K : List A → Type 0)
    (kernel : (v : List A) → K v ↔ (IsVector IsElement (code.k * set_count class) v × IsZeroWhereKept zero add mul code class (spelled zero code.k class v))) where
  -- where no vector of the kernel is nonzero below k, block 0 is zero
  pub decided_from_no_least : ((v : List A) → K v → IsNonzeroBelow zero code.k v → ⊥) → IsDecidedOver IsElement zero add mul code class
  decided_from_no_least none =
      decided_from_none_free laws exact code class set K kernel
      (λ col lt free. none free.vector free.belongs (record { col = col; within = lt; nonzero = free.nonzero }))

  -- a vector of the kernel that isn't zero below k spells a difference
  difference_of : (u : List A) → K u → IsNonzeroBelow zero code.k u → IsDifference IsElement zero add mul code class (spelled zero code.k class u)
  difference_of u ku nonzero =
      let h = stream_of laws exact code class set K kernel u ku in
      record {
        blocks = h.blocks;
        count = h.count;
        zeros = ((kernel u).0 ku).1;
        block_differs = λ e. nonzero.nonzero (zeros_taken zero code.k u nonzero.col (sym (spelled-first zero code.k class u set) ∙ e) nonzero.within);
      }

  -- The least vector of the kernel that isn't zero below k spells the least difference.
  pub least_difference_of : (u : List A) → IsLeastBelow zero number K code.k u → IsLeastStream zero number (IsDifference IsElement zero add mul code class) (spelled zero code.k class u)
  least_difference_of u least = record {
    belongs = difference_of u least.belongs least.nonzero;
    least = λ ys d.
        let h = lost_stream laws exact code class set K kernel ys d.blocks d.count d.zeros in
        let w = lost_symbols class ys in
        let hw = IsVector-lost_symbols zero code.k class ys h in
        let width = hw.width in
        let enough = first_width code.k class set in
        let hu = ((kernel u).0 least.belongs).0 in
        let again = spelled-lost_symbols zero code.k class ys h in
        let nonzero : IsNonzeroBelow zero code.k w =
        elim (first_nonzero exact laws.zero_element code.k w hw.entries) [
          | inl zeros ↦ absurd (d.block_differs (block_of_stream laws exact code class set K kernel ys h ∙ take_zeros zero code.k w (omega arith) zeros))
          | inr some ↦ some
        ] in
        elim (least.least w (vector_of_stream laws exact code class set K kernel ys d.blocks d.count d.zeros) nonzero) [
          | inl same ↦ inl (ap (spelled zero code.k class) same ∙ again)
          | inr before ↦ inr (subst (λ (zs : List (List A)). IsBefore zero number (symbols_of (spelled zero code.k class u)) (symbols_of zs)) again
              (before-spelled zero number code.k class u w hu.width hw.width before))
        ];
  }
