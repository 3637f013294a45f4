-- Marks and sets: the marked gates are a set with just those marks, and its size is their count.
use Rattle.std.proofs.Common.{◌≡◌, ℕ, zero, suc, ◌+◌, ◌<◌, ◌≤◌, Bool, true, false, cond, ◌||◌, List, [], ◌∷◌, length, sym, refl, ap, ◌∙◌, subst, ⊎_elim, add-zero, add-suc, suc-add, zero-add, arith}
use Rattle.std.proofs.lemmas.Bool.{eq-eqb, ne_eqb, cases_Bool, cases_lt, cases_eq, cond-true, cond-false, or_left}
use Rattle.circuit.specs.Circuits.{Circuit}
use Rattle.circuit.specs.Tests.{Test}
use Rattle.diagnosis.specs.Sets.{Marks, member, Ascends, IsSet}
use Rattle.diagnosis.specs.Marked.{marked_from, marked, count, MarkedGatesSet}
use Rattle.diagnosis.specs.Explains.{ExplainsCase}
use Rattle.diagnosis.proofs.Simulated.{brings_marks}
use Rattle.diagnosis.proofs.Subsets.{ascends_from_lower, no_member_below}

-- ── the marked gates are a set ──
marked_ascends : (s : Marks) (n a m : ℕ) → a + m ≡ suc n → Ascends a n (marked_from s a m)
marked_ascends s n a zero e = tt
marked_ascends s n a (suc m) e = next (s a) (marked_ascends s n (suc a) m (omega arith))
  where
    next : (b : Bool) → Ascends (suc a) n (marked_from s (suc a) m) → Ascends a n (cond b (a ∷ marked_from s (suc a) m) (marked_from s (suc a) m))
    next true h = (omega arith, omega arith, h)
    next false h = ascends_from_lower (suc a) a n _ (omega arith) h

pub marked_set : (s : Marks) (n : ℕ) → IsSet n (marked s n)
marked_set s n = marked_ascends s n 1 n (omega arith)

-- ── with just those marks ──
marked_below : (s : Marks) (n a m g : ℕ) → a + m ≡ suc n → g < a → member (marked_from s a m) g ≡ false
marked_below s n a m g e lt = ⊎_elim (λ t. absurd (no_member_below a n (marked_from s a m) (marked_ascends s n a m e) g lt t)) (λ f. f) (cases_Bool (member (marked_from s a m) g))

marked_from_member : (s : Marks) (n a m g : ℕ) → a + m ≡ suc n → a ≤ g → g ≤ n → member (marked_from s a m) g ≡ s g
marked_from_member s n a zero g e le lt = absurd (omega arith)
marked_from_member s n a (suc m) g e le lt =
    ⊎_elim
    (λ same. here same (s a) refl)
    (λ other. later other (s a) (marked_from_member s n (suc a) m g (omega arith) (let l : suc a ≤ g = ⊎_elim (λ (x : a < g). x) (λ y. absurd (other (omega arith))) (cases_lt a g) in l) lt))
    (cases_eq g a)
  where
    here : g ≡ a → (b : Bool) → s a ≡ b → member (cond b (a ∷ marked_from s (suc a) m) (marked_from s (suc a) m)) g ≡ s g
    here is true t = or_left _ _ (eq-eqb g a is) ∙ sym t ∙ ap s (sym is)
    here is false t = marked_below s n (suc a) m g (omega arith) (omega arith) ∙ sym t ∙ ap s (sym is)

    later : (g ≡ a → ⊥) → (b : Bool) → member (marked_from s (suc a) m) g ≡ s g → member (cond b (a ∷ marked_from s (suc a) m) (marked_from s (suc a) m)) g ≡ s g
    later other true h = ap (λ x. x || member (marked_from s (suc a) m) g) (ne_eqb g a other) ∙ h
    later other false h = h

pub marked_member : (s : Marks) (n g : ℕ) → 1 ≤ g → g ≤ n → member (marked s n) g ≡ s g
marked_member s n g low high = marked_from_member s n 1 n g (omega arith) low high

-- ── of that count ──
marked_from_count : (s : Marks) (a m : ℕ) → count s (a + m) ≡ count s a + length (marked_from s (suc a) m)
marked_from_count s a zero = ap (count s) (add-zero a) ∙ sym (add-zero _)
marked_from_count s a (suc m) = ap (count s) (add-suc a m ∙ sym (suc-add a m)) ∙ marked_from_count s (suc a) m ∙ next (s (suc a))
  where
    next : (b : Bool) → cond b (suc (count s a)) (count s a) + length (marked_from s (suc (suc a)) m) ≡ count s a + length (cond b (suc a ∷ marked_from s (suc (suc a)) m) (marked_from s (suc (suc a)) m))
    next true = omega arith
    next false = refl

pub marked_count : (s : Marks) (n : ℕ) → count s n ≡ length (marked s n)
marked_count s n = ap (count s) (sym (zero-add n)) ∙ marked_from_count s 0 n ∙ zero-add _

-- ── marks that agree on the gates ──
pub marked_same : (s r : Marks) (a m : ℕ) → ((g : ℕ) → a ≤ g → g < a + m → s g ≡ r g) → marked_from s a m ≡ marked_from r a m
marked_same s r a zero e = refl
marked_same s r a (suc m) e =
    let here = e a (omega arith) (omega arith) in
    let later = marked_same s r (suc a) m (λ g le lt. e g (omega arith) (omega arith)) in
    λ i. cond (here i) (a ∷ later i) (later i)

pub explains_same : (c : Circuit) (s r : Marks) (ts : List Test) → ((g : ℕ) → 1 ≤ g → g ≤ length c.gates → s g ≡ r g) → ExplainsCase c s ts → ExplainsCase c r ts
explains_same c s r [] same x = tt
explains_same c s r (t ∷ ts) same x = ((x.0.0, brings_marks c s r x.0.0 t same x.0.1), explains_same c s r ts same x.1)

-- ── a set is what it marks ──
marked_from_set : (n a m : ℕ) (S : List ℕ) → a + m ≡ suc n → Ascends a n S → marked_from (member S) a m ≡ S
marked_from_set n a zero [] e asc = refl
marked_from_set n a zero (x ∷ S) e asc = absurd (omega arith)
marked_from_set n a (suc m) [] e asc = marked_from_set n (suc a) m [] (omega arith) tt
marked_from_set n a (suc m) (x ∷ S) e asc =
    ⊎_elim
    (λ same.
    cond-true (member (x ∷ S) a) _ _ (or_left _ _ (eq-eqb a x same))
    ∙ (λ i. same i ∷ (marked_same (member (x ∷ S)) (member S) (suc a) m (λ g le lt. ap (λ b. b || member S g) (ne_eqb g x (λ q. omega arith))) ∙ marked_from_set n (suc a) m S (omega arith) (subst (λ (y : ℕ). Ascends (suc y) n S) (sym same) asc.2)) i))
    (λ other.
    let above : a < x = ⊎_elim (λ (l : a < x). l) (λ y. absurd (other (omega arith))) (cases_lt a x) in
    let off : member (x ∷ S) a ≡ false = ⊎_elim (λ t. absurd (no_member_below (suc a) n (x ∷ S) (above, asc.1, asc.2) a (omega arith) t)) (λ f. f) (cases_Bool (member (x ∷ S) a)) in
    cond-false (member (x ∷ S) a) _ _ off ∙ marked_from_set n (suc a) m (x ∷ S) (omega arith) (above, asc.1, asc.2))
    (cases_eq a x)

pub set_marked : (n : ℕ) (S : List ℕ) → IsSet n S → marked (member S) n ≡ S
set_marked n S s = marked_from_set n 1 n S (omega arith) s

pub marked_gates_set : MarkedGatesSet
marked_gates_set = record { set = marked_set; marks = marked_member; size = λ s n. sym (marked_count s n); own = set_marked }

pub set_count : (n : ℕ) (S : List ℕ) → IsSet n S → count (member S) n ≡ length S
set_count n S s = marked_count (member S) n ∙ ap length (set_marked n S s)
