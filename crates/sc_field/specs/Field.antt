-- What a finite field is, whose elements act on bytes: records of laws over its operations. They speak of the
-- elements alone, and of the bytes, which are the numbers below 256.
use Rattle.std.specs.Prelude.{◌≡◌, ◌≢◌, ◌↔◌, ℕ, ◌<◌, Bool, IsTrue, bit_xor}

-- A commutative field (any textbook of algebra). `sub` undoes `add`, and every element but zero has an inverse.
pub record IsField {A : Type 0} (IsElement : A → Type 0) (zero one : A) (add sub mul : A → A → A) (inv : A → A) : Type 0 where
  pub zero_element : IsElement zero
  pub one_element : IsElement one
  pub add_element : (x y : A) → IsElement x → IsElement y → IsElement (add x y)
  pub sub_element : (x y : A) → IsElement x → IsElement y → IsElement (sub x y)
  pub mul_element : (x y : A) → IsElement x → IsElement y → IsElement (mul x y)
  pub inv_element : (x : A) → IsElement x → x ≢ zero → IsElement (inv x)
  pub distinct : zero ≢ one
  pub add_comm : (x y : A) → IsElement x → IsElement y → add x y ≡ add y x
  pub add_assoc : (x y z : A) → IsElement x → IsElement y → IsElement z → add (add x y) z ≡ add x (add y z)
  pub add_zero : (x : A) → IsElement x → add x zero ≡ x
  pub add_sub : (x y : A) → IsElement x → IsElement y → sub (add x y) y ≡ x
  pub sub_add : (x y : A) → IsElement x → IsElement y → add (sub x y) y ≡ x
  pub mul_comm : (x y : A) → IsElement x → IsElement y → mul x y ≡ mul y x
  pub mul_assoc : (x y z : A) → IsElement x → IsElement y → IsElement z → mul (mul x y) z ≡ mul x (mul y z)
  pub mul_one : (x : A) → IsElement x → mul x one ≡ x
  pub mul_add : (x y z : A) → IsElement x → IsElement y → IsElement z → mul x (add y z) ≡ add (mul x y) (mul x z)
  pub mul_inv : (x : A) → IsElement x → x ≢ zero → mul x (inv x) ≡ one

-- Each element has a number of its own, which fits a byte, and `element` of that number is the element again. Zero has 0
-- and one has 1.
pub record IsNumbered {A : Type 0} (IsElement : A → Type 0) (zero one : A) (number : A → ℕ) (element : ℕ → A) : Type 0 where
  pub below : (x : A) → IsElement x → number x < 256
  pub injective : (x y : A) → IsElement x → IsElement y → number x ≡ number y → x ≡ y
  pub of_zero : number zero ≡ 0
  pub of_one : number one ≡ 1
  pub element_number : (x : A) → IsElement x → element (number x) ≡ x

-- n is the number of an element
pub record IsNumber {A : Type 0} (IsElement : A → Type 0) (number : A → ℕ) (element : ℕ → A) (n : ℕ) : Type 0 where
  pub is_element : IsElement (element n)
  pub same : number (element n) ≡ n

-- The product of an element and a byte: the bytes with xor are a module over the field.
pub record IsAction {A : Type 0} (IsElement : A → Type 0) (zero one : A) (add mul : A → A → A) (act : A → ℕ → ℕ) : Type 0 where
  pub below : (x : A) (b : ℕ) → IsElement x → b < 256 → act x b < 256
  pub by_one : (b : ℕ) → b < 256 → act one b ≡ b
  pub by_zero : (b : ℕ) → b < 256 → act zero b ≡ 0
  pub by_add : (x y : A) (b : ℕ) → IsElement x → IsElement y → b < 256 → act (add x y) b ≡ bit_xor (act x b) (act y b)
  pub of_xor : (x : A) (b c : ℕ) → IsElement x → b < 256 → c < 256 → act x (bit_xor b c) ≡ bit_xor (act x b) (act x c)
  pub by_mul : (x y : A) (b : ℕ) → IsElement x → IsElement y → b < 256 → act (mul x y) b ≡ act x (act y b)

-- A test of equality that tells the elements apart.
pub record IsExact {A : Type 0} (IsElement : A → Type 0) (eq : A → A → Bool) : Type 0 where
  pub exact : (x y : A) → IsElement x → IsElement y → IsTrue (eq x y) ↔ (x ≡ y)
