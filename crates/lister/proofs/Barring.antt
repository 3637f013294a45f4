-- The clauses that bar sets, one gate or one set more.
use Rattle.std.proofs.Common.{◌≡◌, ℕ, zero, suc, ◌+◌, ◌<◌, ◌≤◌, List, [], ◌∷◌, ◌++◌, map, length, get_or, take, set, ℤ, sym, ap, ◌∙◌, subst, le_of_suc-le-suc, not-suc-le-zero, arith}
use mathlib.Core.List.{map-append}
use Rattle.std.specs.List.{AllByRecursion}
use Rattle.std.proofs.lemmas.List.{take_more_set}
use Rattle.diagnosis.specs.Sets.{Ascends, IsSet}
use Rattle.cnf_theory.specs.Literals.{negative, integer}
use Rattle.cnf.proofs.Pieces.{map_more}
use Rattle.candidates.specs.Added.{barring}
use Rattle.inline_list.specs.declared.list.InlineList.{InlineList}
use Rattle.gate_set.specs.Held.{set_of, sets_of}
use Rattle.lister.specs.Asked.{GateNumbers}

pub gate_at : (gs : List ℕ) (i d : ℕ) → i < length gs → GateNumbers gs → (1 ≤ get_or gs i d) × (get_or gs i d ≤ 256)
gate_at [] i d l h = absurd (not-suc-le-zero l)
gate_at (g ∷ gs) zero d l h = h.0
gate_at (g ∷ gs) (suc i) d l h = gate_at gs i d (le_of_suc-le-suc l) h.1

set_at : (ss : List (InlineList ℕ 6)) (i : ℕ) (d : (InlineList ℕ 6)) → i < length ss → AllByRecursion GateNumbers (sets_of ss) → GateNumbers (set_of (get_or ss i d))
set_at [] i d l h = absurd (not-suc-le-zero l)
set_at (s ∷ ss) zero d l h = h.0
set_at (s ∷ ss) (suc i) d l h = set_at ss i d (le_of_suc-le-suc l) h.1

-- the set that stands at place i
pub set_here : (ss : List (InlineList ℕ 6)) (i : ℕ) (s : (InlineList ℕ 6)) → i < length ss → s ≡ get_or ss i s → AllByRecursion GateNumbers (sets_of ss) → GateNumbers (set_of s)
set_here ss i s l e h = subst (λ (x : (InlineList ℕ 6)). GateNumbers (set_of x)) (sym e) (set_at ss i s l h)

pub bar_more : (gs : List ℕ) (ys : List ℤ) (i d : ℕ) (v : ℤ) → i < length gs → i < length ys → take i ys ≡ map integer (barring (take i gs)) → v ≡ integer (negative (get_or gs i d)) → take (i + 1) (set ys i v) ≡ map integer (barring (take (i + 1) gs))
bar_more gs ys i d v l m e f =
    take_more_set ys i v m
    ∙ ap (λ zs. zs ++ v ∷ []) e
    ∙ ap (λ x. map integer (map negative (take i gs)) ++ x ∷ []) f
    ∙ sym (ap (map integer) (map_more negative gs i d l) ∙ map-append integer (map negative (take i gs)) (negative (get_or gs i d) ∷ []))

pub bars_more : (ss : List (InlineList ℕ 6)) (i : ℕ) (s : (InlineList ℕ 6)) → i < length ss → s ≡ get_or ss i s → map barring (sets_of (take i ss)) ++ barring (set_of s) ∷ [] ≡ map barring (sets_of (take (i + 1) ss))
bars_more ss i s l e = ap (λ x. map barring (sets_of (take i ss)) ++ barring (set_of x) ∷ []) e ∙ sym (ap (map barring) (map_more set_of ss i s l) ∙ map-append barring (sets_of (take i ss)) (set_of (get_or ss i s) ∷ []))

-- the gates of a circuit within the limits
set_numbers : (a n : ℕ) (S : List ℕ) → 1 ≤ a → n ≤ 256 → Ascends a n S → GateNumbers S
set_numbers a n [] o l h = tt
set_numbers a n (x ∷ S) o l h = ((omega (arith, h.0), omega (arith, h.1)), set_numbers (suc x) n S (omega arith) l h.2)

pub sets_numbers : (n : ℕ) (given : List (List ℕ)) → n ≤ 256 → AllByRecursion (IsSet n) given → AllByRecursion GateNumbers given
sets_numbers n [] l h = tt
sets_numbers n (S ∷ given) l h = (set_numbers 1 n S (omega arith) l h.0, sets_numbers n given l h.1)
