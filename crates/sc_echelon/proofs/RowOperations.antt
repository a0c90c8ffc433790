-- Row operations keep the solutions.
use Rattle.std.proofs.Common.{◌≡◌, ◌≢◌, ◌↔◌, ℕ, ◌<◌, List, [], length, get_or, set, All, inl, inr, sym, ◌∙◌, ap, subst, arith}
use Rattle.std.proofs.lemmas.List.{length-set, get_or-set_same, get_or-set_other, get_or_default}
use Rattle.std.proofs.lemmas.List.Elements.{All-set}
use Rattle.std.proofs.lemmas.Bool.{cases_eq}
use Rattle.sc_field.specs.Field.{IsField}
use Rattle.sc_field.specs.FieldLemmas.{mul_zero}
use Rattle.sc_matrix.specs.Vector.{scale_vector, dot, IsVector}
use Rattle.sc_matrix.proofs.VectorLaws.{length-add_vectors, get_or-add_vectors, length-scale_vector, get_or-scale_vector}
use Rattle.sc_matrix.specs.Module.{IsModule}
use Rattle.sc_echelon.specs.Equation.{Row, IsRow, Meets, Solves}
use Rattle.sc_echelon.specs.Steps.{plus_row, times_row, entry}
use Rattle.sc_matrix.proofs.ModuleLaws.{plus_cancel, times_cancel}
use Rattle.sc_matrix.proofs.Modules.{field_module}
use Rattle.sc_echelon.proofs.DotLaws.{dot_value, dot-add, dot-scale, values-plus, values-times}

module _ {A V : Type 0} {IsElement : A → Type 0} {zero one : A} {add sub mul : A → A → A} {inv : A → A} {IsValue : V → Type 0} {none : V} {plus : V → V → V} {times : A → V → V} (laws : IsField IsElement zero one add sub mul inv) (ml : IsModule IsElement zero one add mul IsValue none plus times) where
  pub negative_element : (x : A) → IsElement x → IsElement (sub zero x)
  negative_element x hx = laws.sub_element zero x laws.zero_element hx

  pub add_negative : (x : A) → IsElement x → add x (sub zero x) ≡ zero
  add_negative x hx = laws.add_comm x (sub zero x) hx (negative_element x hx) ∙ laws.sub_add zero x laws.zero_element hx

  -- ---- shapes and entries
  pub entry_element : (n : ℕ) (r : Row A V) (i : ℕ) → IsRow IsElement IsValue n r → i < n → IsElement (entry zero r i)
  entry_element n r i h l = let w = h.width in h.elements i zero (omega arith)

  pub IsRow-plus_row : (n : ℕ) (r q : Row A V) (x : A) → IsRow IsElement IsValue n r → IsRow IsElement IsValue n q → IsElement x → IsRow IsElement IsValue n (plus_row add mul plus times r x q)
  IsRow-plus_row n r q x hr hq hx = record {
    width = length-add_vectors add r.coeffs (scale_vector mul x q.coeffs) (hr.width ∙ sym hq.width ∙ sym (length-scale_vector mul x q.coeffs)) ∙ hr.width;
    elements = values-plus laws (field_module laws) r.coeffs (scale_vector mul x q.coeffs) hr.elements (values-times laws (field_module laws) x q.coeffs hx hq.elements);
    value = ml.plus_value r.right (times x q.right) hr.value (ml.times_value x q.right hx hq.value);
  }

  pub IsRow-times_row : (n : ℕ) (r : Row A V) (x : A) → IsRow IsElement IsValue n r → IsElement x → IsRow IsElement IsValue n (times_row mul times x r)
  IsRow-times_row n r x hr hx = record {
    width = length-scale_vector mul x r.coeffs ∙ hr.width;
    elements = values-times laws (field_module laws) x r.coeffs hx hr.elements;
    value = ml.times_value x r.right hx hr.value;
  }

  pub entry-plus_row : (n : ℕ) (r q : Row A V) (x : A) (i : ℕ) → IsRow IsElement IsValue n r → IsRow IsElement IsValue n q → i < n → entry zero (plus_row add mul plus times r x q) i ≡ add (entry zero r i) (mul x (entry zero q i))
  entry-plus_row n r q x i hr hq h =
      let wr = hr.width in
      let wq = hq.width in
      get_or-add_vectors add r.coeffs (scale_vector mul x q.coeffs) i zero (hr.width ∙ sym hq.width ∙ sym (length-scale_vector mul x q.coeffs)) (omega arith)
      ∙ ap (add (entry zero r i)) (get_or-scale_vector mul x q.coeffs i zero (omega arith))

  pub entry-times_row : (n : ℕ) (r : Row A V) (x : A) (i : ℕ) → IsRow IsElement IsValue n r → i < n → entry zero (times_row mul times x r) i ≡ mul x (entry zero r i)
  entry-times_row n r x i hr h = let wr = hr.width in get_or-scale_vector mul x r.coeffs i zero (omega arith)

  -- where row q has a zero, r keeps its entry
  pub entry-plus_zero : (n : ℕ) (r q : Row A V) (x : A) (i : ℕ) → IsRow IsElement IsValue n r → IsRow IsElement IsValue n q → IsElement x → i < n → entry zero q i ≡ zero → entry zero (plus_row add mul plus times r x q) i ≡ entry zero r i
  entry-plus_zero n r q x i hr hq hx h z =
      entry-plus_row n r q x i hr hq h ∙ ap (add (entry zero r i)) (ap (mul x) z ∙ mul_zero laws x hx) ∙ laws.add_zero (entry zero r i) (entry_element n r i hr h)

  -- row q, which has a one at column p, clears the entry there
  pub entry-cleared : (n : ℕ) (r q : Row A V) (p : ℕ) → IsRow IsElement IsValue n r → IsRow IsElement IsValue n q → p < n → entry zero q p ≡ one → entry zero (plus_row add mul plus times r (sub zero (entry zero r p)) q) p ≡ zero
  entry-cleared n r q p hr hq h e =
      let hp = entry_element n r p hr h in
      entry-plus_row n r q (sub zero (entry zero r p)) p hr hq h
      ∙ ap (add (entry zero r p)) (ap (mul (sub zero (entry zero r p))) e ∙ laws.mul_one (sub zero (entry zero r p)) (negative_element (entry zero r p) hp))
      ∙ add_negative (entry zero r p) hp

  -- ---- solutions
  dot-plus_row : (n : ℕ) (r q : Row A V) (x : A) (vs : List V) → IsRow IsElement IsValue n r → IsRow IsElement IsValue n q → IsElement x → IsVector IsValue n vs
      → dot none plus times (plus_row add mul plus times r x q).coeffs vs ≡ plus (dot none plus times r.coeffs vs) (times x (dot none plus times q.coeffs vs))
  dot-plus_row n r q x vs hr hq hx hv =
      dot-add laws ml r.coeffs (scale_vector mul x q.coeffs) vs hr.elements (values-times laws (field_module laws) x q.coeffs hx hq.elements) hv.entries
      (hr.width ∙ sym hq.width ∙ sym (length-scale_vector mul x q.coeffs))
      ∙ ap (plus (dot none plus times r.coeffs vs)) (dot-scale laws ml x q.coeffs vs hx hq.elements hv.entries)

  -- what meets q meets r plus a multiple of q exactly where it meets r
  pub meets-plus_row : (n : ℕ) (r q : Row A V) (x : A) (vs : List V) → IsRow IsElement IsValue n r → IsRow IsElement IsValue n q → IsElement x → IsVector IsValue n vs
      → Meets none plus times q vs → Meets none plus times (plus_row add mul plus times r x q) vs ↔ Meets none plus times r vs
  meets-plus_row n r q x vs hr hq hx hv m =
      let c = dot_value laws ml r.coeffs vs hr.elements hv.entries in
      let s = ml.times_value x q.right hx hq.value in
      let e : dot none plus times (plus_row add mul plus times r x q).coeffs vs ≡ plus (dot none plus times r.coeffs vs) (times x q.right) =
      dot-plus_row n r q x vs hr hq hx hv ∙ ap (λ (v : V). plus (dot none plus times r.coeffs vs) (times x v)) m in (
        λ h. plus_cancel laws ml (times x q.right) (dot none plus times r.coeffs vs) r.right s c hr.value
            (ml.plus_comm (times x q.right) (dot none plus times r.coeffs vs) s c ∙ sym e ∙ h ∙ ml.plus_comm r.right (times x q.right) hr.value s),
        λ h. e ∙ ap (λ (v : V). plus v (times x q.right)) h,
      )

  pub meets-times_row : (n : ℕ) (r : Row A V) (x : A) (vs : List V) → IsRow IsElement IsValue n r → IsElement x → x ≢ zero → IsVector IsValue n vs
      → Meets none plus times (times_row mul times x r) vs ↔ Meets none plus times r vs
  meets-times_row n r x vs hr hx ne hv =
      let c = dot_value laws ml r.coeffs vs hr.elements hv.entries in
      let e = dot-scale laws ml x r.coeffs vs hx hr.elements hv.entries in (
        λ h. times_cancel laws ml x (dot none plus times r.coeffs vs) r.right hx c hr.value ne (sym e ∙ h),
        λ h. e ∙ ap (times x) h,
      )

  -- ---- on a list of rows
  abbrev pub no_row : Row A V
  no_row = record { coeffs = []; right = none }

  other_row : (rows : List (Row A V)) (a : ℕ) (q : Row A V) (vs : List V) → Solves none plus times (set rows a q) vs → (i : ℕ) (d : Row A V) → i < length rows → i ≢ a → Meets none plus times (get_or rows i d) vs
  other_row rows a q vs h i d l ne =
      let k = length-set rows a q in
      subst (λ (r : Row A V). Meets none plus times r vs) (get_or-set_other rows a i q d ne) (h i d (omega arith))

  new_row : (rows : List (Row A V)) (a : ℕ) (q : Row A V) (vs : List V) → a < length rows → Solves none plus times (set rows a q) vs → Meets none plus times q vs
  new_row rows a q vs l h =
      let k = length-set rows a q in
      subst (λ (r : Row A V). Meets none plus times r vs) (get_or-set_same rows a q no_row l) (h a no_row (omega arith))

  -- a multiple of one row added to another
  pub solves-plus_row : (n : ℕ) (rows : List (Row A V)) (a b : ℕ) (x : A) (vs : List V) → All (λ (r : Row A V). IsRow IsElement IsValue n r) rows → a < length rows → b < length rows → a ≢ b → IsElement x → IsVector IsValue n vs
      → Solves none plus times (set rows a (plus_row add mul plus times (get_or rows a no_row) x (get_or rows b no_row))) vs ↔ Solves none plus times rows vs
  solves-plus_row n rows a b x vs h la lb ne hx hv =
      let ra = get_or rows a no_row in
      let rb = get_or rows b no_row in
      let ha : IsRow IsElement IsValue n ra = h a no_row la in
      let hb : IsRow IsElement IsValue n rb = h b no_row lb in (
        λ s.
            let mb : Meets none plus times rb vs = other_row rows a (plus_row add mul plus times ra x rb) vs s b no_row lb (λ e. ne (sym e)) in
            let ma : Meets none plus times ra vs = (meets-plus_row n ra rb x vs ha hb hx hv mb).0 (new_row rows a (plus_row add mul plus times ra x rb) vs la s) in
            λ i d l. elim (cases_eq i a) [
              | inl e ↦ subst (λ (r : Row A V). Meets none plus times r vs) (ap (λ j. get_or rows j no_row) (sym e) ∙ get_or_default rows i no_row d l) ma
              | inr other ↦ other_row rows a (plus_row add mul plus times ra x rb) vs s i d l other
            ],
        λ s. All-set (λ (r : Row A V). Meets none plus times r vs) rows a (plus_row add mul plus times ra x rb) ((meets-plus_row n ra rb x vs ha hb hx hv (s b no_row lb)).1 (s a no_row la)) s,
      )

  -- a row times an element that isn't zero
  pub solves-times_row : (n : ℕ) (rows : List (Row A V)) (a : ℕ) (x : A) (vs : List V) → All (λ (r : Row A V). IsRow IsElement IsValue n r) rows → a < length rows → IsElement x → x ≢ zero → IsVector IsValue n vs
      → Solves none plus times (set rows a (times_row mul times x (get_or rows a no_row))) vs ↔ Solves none plus times rows vs
  solves-times_row n rows a x vs h la hx nz hv =
      let ra = get_or rows a no_row in
      let ha : IsRow IsElement IsValue n ra = h a no_row la in (
        λ s.
            let ma : Meets none plus times ra vs = (meets-times_row n ra x vs ha hx nz hv).0 (new_row rows a (times_row mul times x ra) vs la s) in
            λ i d l. elim (cases_eq i a) [
              | inl e ↦ subst (λ (r : Row A V). Meets none plus times r vs) (ap (λ j. get_or rows j no_row) (sym e) ∙ get_or_default rows i no_row d l) ma
              | inr other ↦ other_row rows a (times_row mul times x ra) vs s i d l other
            ],
        λ s. All-set (λ (r : Row A V). Meets none plus times r vs) rows a (times_row mul times x ra) ((meets-times_row n ra x vs ha hx nz hv).1 (s a no_row la)) s,
      )
