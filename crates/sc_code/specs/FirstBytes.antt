-- The first list of bytes that passes a test. So a property of all lists of so many bytes is a function of what it tests,
-- however it is decided in code.
use Rattle.std.specs.Prelude.{ℕ, zero as naught, suc, Bool, List, [], ◌∷◌, Option, Some, None, if◌then◌else◌}
use Rattle.std.specs.Option.{option_map}

-- the first of two that is there
abbrev pub first_there : {A : Type 0} → Option A → Option A → Option A
first_there (Some x) other = Some x
first_there None other = other

-- the first of f 0, f 1 and so on up to f (n - 1) that is there
unfoldable pub first_below : {A : Type 0} → ℕ → (ℕ → Option A) → Option A
first_below naught f = None
first_below (suc n) f = first_there (first_below n f) (f n)

-- of the lists of n bytes that pass a test the first, in lexicographic order
unfoldable pub first_bytes : ℕ → (List ℕ → Bool) → Option (List ℕ)
first_bytes naught test = if test [] then Some [] else None
first_bytes (suc n) test = first_below 256 (λ byte. option_map (λ bytes. byte ∷ bytes) (first_bytes n (λ bytes. test (byte ∷ bytes))))
