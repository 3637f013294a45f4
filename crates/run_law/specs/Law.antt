-- The law over runs: whatever is called on a new case, in whatever order, with refused calls among them and any solver at each next.
--   WhileOpen     something is so of the circuit, the tests held and the list, while a list is open
--   BeginsList    the sets given are, in their order, a beginning of the full list for the bound
--   RefusedWhen   a call is refused exactly when a question put to it says no, with that question's number, line and column
--   EndsWhen      an accepted next says end exactly when every set of the full list was given
--   BringsOut     a reading that is told for a test, forced on the set given last, brings out every measured output of that test
--   InKind        an accepted call answers in its kind: a next gives a set or says end, a reading is told, any other is done
--   AtEvent       all this of an event, by what was held before it
--   Lawful        all this of each event of a history, by what the events before it leave held
--   Extends       a call on a case that holds h, after which it holds h': any lawful history that leaves h held is lawful with this event too, and then leaves h' held
use Rattle.std.specs.Prelude.{◌≡◌, ℕ, true, ◌⊎◌, ◌↔◌, List, [], ◌∷◌, ◌++◌, Some, None, Option}
use Rattle.std.specs.List.{slice_get}
use Rattle.refusal.specs.declared.Refusal.{Refusal}
use Rattle.circuit.specs.Circuits.{Circuit}
use Rattle.circuit.specs.Tests.{Test}
use Rattle.netlist_text.specs.Netlists.{Netlist}
use Rattle.solver.specs.Meaning.{Sizes}
use Rattle.diagnosis.specs.Sets.{member}
use Rattle.diagnosis.specs.Explains.{brings_out}
use Rattle.diagnosis.specs.Order.{In}
use Rattle.diagnosis.specs.Minimal.{FullListFor}
use Rattle.diagnosis.specs.Next.{Begins}
use Rattle.diagnosis.specs.Readings.{forced_by}
use Rattle.run_law.specs.Calls.{Call, Load, Record, Amend, Strike, Open, Next, Close, Readings, Answer, Refused, Done, Gave, End, Told, Event, History}
use Rattle.run_law.specs.Held.{Listing, Held, after, held_after}
use Rattle.run_law.specs.Questions.{latest, asked}

abbrev pub while_open : Option Netlist → List Test → Option Listing → (Circuit → List Test → Listing → Type 0) → Type 0
while_open None ts l P = Unit {0}
while_open (Some n) ts None P = Unit {0}
while_open (Some n) ts (Some l) P = P n.circuit ts l

abbrev pub WhileOpen : Held → (Circuit → List Test → Listing → Type 0) → Type 0
WhileOpen h P = while_open h.netlist h.tests h.listing P

-- ── (a) ──
abbrev pub BeginsList : Circuit → List Test → Listing → Type 0
BeginsList c ts l = (L : List (List ℕ)) → FullListFor c ts l.bound L → Begins l.given L

-- ── (b) ──
abbrev pub RefusedWhen : Held → Event → Type 0
RefusedWhen h e = (r : Refusal) → (e.answer ≡ Refused r) ↔ (asked h e.call ≡ Some r)

abbrev pub EndsWhen : Held → Event → Circuit → List Test → Listing → Type 0
EndsWhen h e c ts l =
    (z : Sizes) → e.call ≡ Next z → asked h e.call ≡ None
    → (L : List (List ℕ)) → FullListFor c ts l.bound L → (e.answer ≡ End) ↔ ((S : List ℕ) → In S L → In S l.given)

-- ── (c) ──
abbrev pub BringsOut : Event → Circuit → List Test → Listing → Type 0
BringsOut e c ts l =
    (t b : ℕ) → e.call ≡ Readings t → e.answer ≡ Told b
    → (S : List ℕ) (test : Test) → latest l ≡ Some S → slice_get ts t ≡ Some test → brings_out c (member S) (forced_by S b) test ≡ true

-- ── the whole ──
abbrev pub InKind : Call → Answer → Type 0
InKind (Load text) a = a ≡ Done
InKind (Record bytes) a = a ≡ Done
InKind (Amend t o v) a = a ≡ Done
InKind Strike a = a ≡ Done
InKind (Open N) a = a ≡ Done
InKind (Next z) a = (a ≡ End) ⊎ ((S : List ℕ) × (a ≡ Gave S))
InKind Close a = a ≡ Done
InKind (Readings t) a = (b : ℕ) × (a ≡ Told b)

pub record AtEvent (h : Held) (e : Event) : Type 0 where
  pub begins : WhileOpen (after h e) BeginsList
  pub refused : RefusedWhen h e
  pub ends : WhileOpen h (EndsWhen h e)
  pub brings_out : WhileOpen h (BringsOut e)
  pub in_kind : asked h e.call ≡ None → InKind e.call e.answer

abbrev pub Lawful : History → Type 0
Lawful run = (before rest : History) (e : Event) → before ++ e ∷ rest ≡ run → AtEvent (held_after before) e

abbrev pub Extends : Held → Event → Held → Type 0
Extends h e h' = (past : History) → Lawful past → held_after past ≡ h → Lawful (past ++ e ∷ []) × (held_after (past ++ e ∷ []) ≡ h')
