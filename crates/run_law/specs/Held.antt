-- What a case holds. It follows from the calls and their answers alone.
--   Listing      an open list: its bound, the sets given since it was opened, and whether its end was said
--   Held         the netlist if one was loaded, the tests in their order, and the list if one is open
--   nothing      what a new case holds
--   accepted     what is held after a call that was not refused
--   after        what is held after an event; a refused call changes nothing
--   held_after   what is held after a history
use Rattle.std.specs.Prelude.{ℕ, Bool, true, false, List, [], ◌∷◌, ◌++◌, Some, None, Option}
use Rattle.std.specs.Option.{option_map}
use Rattle.std.specs.Result.{result_ok, result_unwrap_or}
use Rattle.circuit.specs.Tests.{Test}
use Rattle.netlist_text.specs.Netlists.{Netlist}
use Rattle.netlist_text.specs.Meaning.{meaning}
use Rattle.test_format.specs.Records.{recorded}
use Rattle.test_format.specs.Amending.{amended, struck}
use Rattle.run_law.specs.Calls.{Call, Load, Record, Amend, Strike, Open, Next, Close, Readings, Answer, Refused, Done, Gave, End, Told, Event, History}

pub record Listing : Type 0 where
  pub bound : ℕ
  pub given : List (List ℕ)
  pub ended : Bool

pub record Held : Type 0 where
  pub netlist : Option Netlist
  pub tests : List Test
  pub listing : Option Listing

abbrev pub nothing : Held
nothing = record { netlist = None; tests = []; listing = None }

abbrev pub with_netlist : Held → Option Netlist → Held
with_netlist h n = record { netlist = n; tests = h.tests; listing = h.listing }

abbrev pub with_tests : Held → List Test → Held
with_tests h ts = record { netlist = h.netlist; tests = ts; listing = h.listing }

abbrev pub with_listing : Held → Option Listing → Held
with_listing h l = record { netlist = h.netlist; tests = h.tests; listing = l }

-- the tests with the one that a record gives, at the end
abbrev pub tests_after : Option Netlist → List Test → List ℕ → List Test
tests_after None ts bytes = ts
tests_after (Some n) ts bytes = result_unwrap_or (recorded n.circuit ts bytes) ts

abbrev pub new_listing : ℕ → Listing
new_listing N = record { bound = N; given = []; ended = false }

-- a list after the answer to a next: a set that was given joins it at its end
abbrev pub grown : Answer → Listing → Listing
grown (Refused r) l = l
grown Done l = l
grown (Gave S) l = record { bound = l.bound; given = l.given ++ S ∷ []; ended = l.ended }
grown End l = record { bound = l.bound; given = l.given; ended = true }
grown (Told b) l = l

abbrev pub accepted : Held → Call → Answer → Held
accepted h (Load text) a = with_netlist h (result_ok (meaning text))
accepted h (Record bytes) a = with_tests h (tests_after h.netlist h.tests bytes)
accepted h (Amend t o v) a = with_tests h (result_unwrap_or (amended h.tests t o v) h.tests)
accepted h Strike a = with_tests h (result_unwrap_or (struck h.tests) h.tests)
accepted h (Open N) a = with_listing h (Some (new_listing N))
accepted h (Next z) a = with_listing h (option_map (grown a) h.listing)
accepted h Close a = with_listing h None
accepted h (Readings t) a = h

abbrev pub after_answer : Held → Call → Answer → Held
after_answer h k (Refused r) = h
after_answer h k Done = accepted h k Done
after_answer h k (Gave S) = accepted h k (Gave S)
after_answer h k End = accepted h k End
after_answer h k (Told b) = accepted h k (Told b)

abbrev pub after : Held → Event → Held
after h e = after_answer h e.call e.answer

-- from what is held, after these events
abbrev pub held_from : Held → History → Held
held_from h [] = h
held_from h (e ∷ es) = held_from (after h e) es

abbrev pub held_after : History → Held
held_after es = held_from nothing es
