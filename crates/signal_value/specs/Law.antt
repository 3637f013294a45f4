-- The law of every operation on values: in each lane a result stands for every bit that the operands' bits can give, and for no other.
--   Follows, Follows2   the law of an operation on one operand, and on two
--   xor                 exclusive or of two bits
--   ImagesFollow        the images are what the law asks for, and nothing else is
use Rattle.std.specs.Prelude.{◌≡◌, Bool, true, not, ◌↔◌}
use Rattle.std.specs.Bool.{beq}
use Rattle.signal_value.specs.Possible.{Possible, includes, image, image2}

abbrev pub xor : Bool → Bool → Bool
xor p q = not (beq p q)

-- the result R of an operation f on an operand that stands for P
pub record Follows (f : Bool → Bool) (P R : Possible) : Type 0 where
  pub every : (p : Bool) → includes P p ≡ true → includes R (f p) ≡ true
  pub no_other : (x : Bool) → includes R x ≡ true → (p : Bool) × (includes P p ≡ true) × (f p ≡ x)

-- the result R of an operation f on operands that stand for P and Q
pub record Follows2 (f : Bool → Bool → Bool) (P Q R : Possible) : Type 0 where
  pub every : (p q : Bool) → includes P p ≡ true → includes Q q ≡ true → includes R (f p q) ≡ true
  pub no_other : (x : Bool) → includes R x ≡ true → (p : Bool) × (q : Bool) × (includes P p ≡ true) × (includes Q q ≡ true) × (f p q ≡ x)

pub record ImagesFollow : Type 0 where
  pub one : (f : Bool → Bool) (P R : Possible) → Follows f P R ↔ (R ≡ image f P)
  pub two : (f : Bool → Bool → Bool) (P Q R : Possible) → Follows2 f P Q R ↔ (R ≡ image2 f P Q)
