-- The questions put to a call, in their order. A no refuses the call with the question's number; those about a text have a line and a column too.
--   ask      a question with its number, and those after it: the refusal of the first that is answered with a no
--   due      question 1: is the call due?
--   latest   the set given last, whose readings are kept: none before the first set, and none once the end was said
--   asked    the refusal of a call by what is held, or none if every question is answered with a yes
use Rattle.std.specs.Prelude.{ℕ, Bool, false, cond, not, ◌&&◌, List, [], ◌∷◌, length, is_some, Some, None, Option, nat_le, nat_lt}
use Rattle.std.specs.Result.{result_err}
use Rattle.refusal.specs.declared.Refusal.{Refusal}
use Rattle.circuit.specs.Tests.{Test}
use Rattle.netlist_text.specs.Netlists.{Netlist}
use Rattle.netlist_text.specs.Meaning.{meaning}
use Rattle.test_format.specs.Records.{recorded}
use Rattle.test_format.specs.Amending.{amended, struck}
use Rattle.solver.specs.Meaning.{Sizes}
use Rattle.candidates.specs.Enough.{enough}
use Rattle.run_law.specs.Calls.{Call, Load, Record, Amend, Strike, Open, Next, Close, Readings}
use Rattle.run_law.specs.Held.{Listing, Held}

abbrev pub ask : ℕ → Bool → Option Refusal → Option Refusal
ask q so rest = cond so rest (Some (record { number = q; line = 0; column = 0 }))

-- a netlist comes first and once; tests change while no list is open; the rest is about the open list
abbrev pub due : Held → Call → Bool
due h (Load text) = not (is_some h.netlist)
due h (Record bytes) = is_some h.netlist && not (is_some h.listing)
due h (Amend t o v) = is_some h.netlist && not (is_some h.listing)
due h Strike = is_some h.netlist && not (is_some h.listing)
due h (Open N) = is_some h.netlist && not (is_some h.listing)
due h (Next z) = is_some h.listing
due h Close = is_some h.listing
due h (Readings t) = is_some h.listing

abbrev pub last_of : {A : Type 0} → List A → Option A
last_of [] = None
last_of (x ∷ []) = Some x
last_of (x ∷ y ∷ ys) = last_of (y ∷ ys)

abbrev pub latest : Listing → Option (List ℕ)
latest l = cond l.ended None (last_of l.given)

-- 11 to 13
abbrev pub record_asked : Option Netlist → List Test → List ℕ → Option Refusal
record_asked None ts bytes = None
record_asked (Some n) ts bytes = result_err (recorded n.circuit ts bytes)

-- 17: are fewer than 128 sets given? 18: has the solver enough? Neither is put once the end was said.
abbrev pub next_asked : Option Netlist → List Test → Option Listing → Sizes → Option Refusal
next_asked None ts l z = None
next_asked (Some n) ts None z = None
next_asked (Some n) ts (Some l) z = cond l.ended None (ask 17 (nat_lt (length l.given) 128) (ask 18 (enough n.circuit ts l.bound l.given z) None))

-- whether the readings of a set are kept
abbrev pub kept_readings : Option Listing → Bool
kept_readings None = false
kept_readings (Some l) = is_some (latest l)

-- the questions after the first
abbrev pub asked_of : Held → Call → Option Refusal
asked_of h (Load text) = result_err (meaning text)
asked_of h (Record bytes) = record_asked h.netlist h.tests bytes
asked_of h (Amend t o v) = result_err (amended h.tests t o v)
asked_of h Strike = result_err (struck h.tests)
asked_of h (Open N) = ask 16 (nat_le N 6) None
asked_of h (Next z) = next_asked h.netlist h.tests h.listing z
asked_of h Close = None
asked_of h (Readings t) = ask 19 (nat_lt t (length h.tests) && kept_readings h.listing) None

abbrev pub asked : Held → Call → Option Refusal
asked h k = ask 1 (due h k) (asked_of h k)
