-- Histories, one event at a time: a lawful history stays so with one more event that the law allows, and a history is lawful exactly if its events are so in turn.
--   LawfulFrom   each event in turn is as the law asks, by what is held when it comes
use Rattle.std.proofs.Common.{◌≡◌, ℕ, ◌⊎◌, [], ◌∷◌, ◌++◌, sym, refl, ap, ◌∙◌, subst, inl, inr, ⊎_elim, arith}
use Rattle.run_law.specs.Calls.{Event, History}
use Rattle.run_law.specs.Held.{Held, nothing, after, held_from, held_after}
use Rattle.run_law.specs.Law.{AtEvent, Lawful, Extends}

-- ── one more event ──
pub held_with_one_more : (h : Held) (past : History) (e : Event) → held_from h (past ++ e ∷ []) ≡ after (held_from h past) e
held_with_one_more h [] e = refl
held_with_one_more h (p ∷ past) e = held_with_one_more (after h p) past e

not_empty : (before rest : History) (x : Event) → before ++ x ∷ rest ≡ [] → ⊥
not_empty [] rest x q = let z : ◌≡◌ {A = ℕ} 0 1 = cc in omega arith
not_empty (b ∷ before) rest x q = let z : ◌≡◌ {A = ℕ} 0 1 = cc in omega arith

-- an event of a history with one more is that one, or an event of the history
pub last_or_earlier : (before rest past : History) (x e : Event) → before ++ x ∷ rest ≡ past ++ e ∷ [] → ((before ≡ past) × (x ≡ e)) ⊎ ((more : History) × (before ++ x ∷ more ≡ past))
last_or_earlier [] rest [] x e q = inl (refl, cc)
last_or_earlier [] rest (p ∷ past) x e q = inr (past, let same : x ≡ p = cc in ap (λ y. y ∷ past) same)
last_or_earlier (b ∷ before) rest [] x e q = absurd (not_empty before rest x (cc))
last_or_earlier (b ∷ before) rest (p ∷ past) x e q =
    let first : b ≡ p = cc in
    ⊎_elim
    (λ last. let front : before ≡ past = last.0 in inl (cc, last.1))
    (λ earlier. let front : before ++ x ∷ earlier.0 ≡ past = earlier.1 in inr (earlier.0, cc))
    (last_or_earlier before rest past x e (cc))

pub lawful_none : Lawful []
lawful_none before rest e q = absurd (not_empty before rest e q)

pub lawful_with_one_more : (past : History) (e : Event) → Lawful past → AtEvent (held_after past) e → Lawful (past ++ e ∷ [])
lawful_with_one_more past e lawful at before rest x q =
    ⊎_elim
    (λ last. subst (λ (p : History). AtEvent (held_after p) x) (sym last.0) (subst (λ (y : Event). AtEvent (held_after past) y) (sym last.1) at))
    (λ earlier. lawful before earlier.0 x earlier.1)
    (last_or_earlier before rest past x e q)

pub extends : (h : Held) (e : Event) (h' : Held) → AtEvent h e → after h e ≡ h' → Extends h e h'
extends h e h' at eq past lawful held = (
  lawful_with_one_more past e lawful (subst (λ (k : Held). AtEvent k e) (sym held) at),
  held_with_one_more nothing past e ∙ ap (λ k. after k e) held ∙ eq,
)

-- a driver's step: what it knows of the calls so far, and what a call's contract says, give the same of the calls with this one
pub one_call_more : (past : History) (h : Held) (e : Event) (h' : Held) → Lawful past × (held_after past ≡ h) → Extends h e h' → Lawful (past ++ e ∷ []) × (held_after (past ++ e ∷ []) ≡ h')
one_call_more past h e h' known step = step past known.0 known.1

-- ── in turn ──
abbrev pub LawfulFrom : Held → History → Type 0
LawfulFrom h [] = Unit {0}
LawfulFrom h (e ∷ es) = AtEvent h e × LawfulFrom (after h e) es

-- each event of a history as the law asks, after what was held before the first
abbrev pub EachFrom : Held → History → Type 0
EachFrom h run = (before rest : History) (e : Event) → before ++ e ∷ rest ≡ run → AtEvent (held_from h before) e

pub in_turn : (h : Held) (run : History) → EachFrom h run → LawfulFrom h run
in_turn h [] each = tt
in_turn h (e ∷ es) each = (each [] es e refl, in_turn (after h e) es (λ before rest x q. each (e ∷ before) rest x (ap (λ r. e ∷ r) q)))

pub from_turns : (h : Held) (run : History) → LawfulFrom h run → EachFrom h run
from_turns h [] turns before rest x q = absurd (not_empty before rest x q)
from_turns h (e ∷ es) turns [] rest x q = let same : e ≡ x = cc in subst (λ (y : Event). AtEvent h y) same turns.0
from_turns h (e ∷ es) turns (b ∷ before) rest x q =
    let same : e ≡ b = cc in
    subst (λ (y : Event). AtEvent (held_from (after h y) before) x) same (from_turns (after h e) es turns.1 before rest x (cc))

pub lawful_in_turn : (run : History) → Lawful run → LawfulFrom nothing run
lawful_in_turn run lawful = in_turn nothing run lawful

pub lawful_from_turns : (run : History) → LawfulFrom nothing run → Lawful run
lawful_from_turns run turns = from_turns nothing run turns

-- what the law asks of the event that stands after these
pub lawful_at : (before rest : History) (e : Event) → Lawful (before ++ e ∷ rest) → AtEvent (held_after before) e
lawful_at before rest e lawful = lawful before rest e refl
