-- Runs on a small circuit: one that is lawful, and some that are not, each wrong in its last event.
--   text_p              m = AND(a, b), y = OR(m, c), z = NOT(m), with inputs a, b, c and outputs y, z; its gates m, y, z have the numbers 1, 2, 3
--   roomy, cramped      the sizes of a solver that has enough at each next below, and of one with too little room
--   done                a call that is done
--   loaded, recorded    this netlist is loaded; a test is recorded, in which a and b are 1, c is 0, and y was measured as 0 and z as 1
--   unmeasured          the test is amended: y was not measured
--   opened              a list of the sets of at most 2 gates is opened
--   gives, says_end     a next over the roomy solver gives this set, or says end
--   tells               the reading of the test is told, as this byte
--   no_to, refused_by   the refusal that a no to the question of this number gives; a call that it refuses
--   begun               netlist and test are in and the list is open; the full list is 1, then 2 and 3
--   WrongRunsUnlawful   what might go wrong in a run; none of it is lawful
--   first_list          this list up to its end, with a reading, a call that is not due, and a next after the end
--   opened_again        the list is closed, the test amended, and a list opened; its full list is 1, then 3
--   second_list         that list up to its end
--   RightRunLawful      all this in turn is lawful
use Rattle.std.specs.Prelude.{ℕ, List, [], ◌∷◌, ◌++◌, codes}
use Rattle.std.specs.List.{flat_map}
use Rattle.refusal.specs.declared.Refusal.{Refusal}
use Rattle.solver.specs.Meaning.{Sizes}
use Rattle.run_law.specs.Calls.{Call, Load, Record, Amend, Strike, Open, Next, Close, Readings, Refused, Done, Gave, End, Told, Event, History}
use Rattle.run_law.specs.Law.{Lawful}

-- ── the circuit and the solver ──
abbrev line : List ℕ → List ℕ
line l = l ++ 10 ∷ []

abbrev pub text_p : List ℕ
text_p = flat_map line (codes "INPUT(a)" ∷ codes "INPUT(b)" ∷ codes "INPUT(c)" ∷ codes "OUTPUT(y)" ∷ codes "OUTPUT(z)" ∷ codes "m = AND(a, b)" ∷ codes "y = OR(m, c)" ∷ codes "z = NOT(m)" ∷ [])

abbrev pub roomy : Sizes
roomy = record { capacity = 1000; width = 16; full = 1000 }

abbrev pub cramped : Sizes
cramped = record { capacity = 1000; width = 16; full = 10 }

-- ── events ──
abbrev pub done : Call → Event
done k = record { call = k; answer = Done }

abbrev pub loaded : Event
loaded = done (Load text_p)

abbrev pub recorded : Event
recorded = done (Record (3 ∷ 3 ∷ 2 ∷ []))

abbrev pub unmeasured : Event
unmeasured = done (Amend 0 1 2)

abbrev pub opened : Event
opened = done (Open 2)

abbrev pub gives : List ℕ → Event
gives S = record { call = Next roomy; answer = Gave S }

abbrev pub says_end : Event
says_end = record { call = Next roomy; answer = End }

abbrev pub tells : ℕ → Event
tells b = record { call = Readings 0; answer = Told b }

abbrev pub no_to : ℕ → Refusal
no_to q = record { number = q; line = 0; column = 0 }

abbrev pub refused_by : ℕ → Call → Event
refused_by q k = record { call = k; answer = Refused (no_to q) }

-- ── runs ──
abbrev pub begun : History
begun = loaded ∷ recorded ∷ opened ∷ []

pub record WrongRunsUnlawful : Type 0 where
  -- the end is said before any set was given
  pub ends_first : Lawful (begun ++ says_end ∷ []) → ⊥
  -- the first set is given again
  pub gives_first_again : Lawful (begun ++ gives (1 ∷ []) ∷ gives (1 ∷ []) ∷ []) → ⊥
  -- the end is said while the set of y and z is still to come
  pub ends_early : Lawful (begun ++ gives (1 ∷ []) ∷ says_end ∷ []) → ⊥
  -- a solver that has enough is refused
  pub refuses_roomy : Lawful (begun ++ refused_by 18 (Next roomy) ∷ []) → ⊥
  -- a solver with too little room is taken, though the set is the right one
  pub takes_cramped : Lawful (begun ++ record { call = Next cramped; answer = Gave (1 ∷ []) } ∷ []) → ⊥
  -- a set is given that explains the test, but contains the set given before
  pub bars_only_the_same : Lawful (begun ++ gives (1 ∷ []) ∷ gives (1 ∷ 2 ∷ []) ∷ []) → ⊥
  -- y is amended to not measured, and the list goes on as if it still were
  pub idle_amendment : Lawful (loaded ∷ recorded ∷ unmeasured ∷ opened ∷ gives (1 ∷ []) ∷ gives (2 ∷ 3 ∷ []) ∷ []) → ⊥
  -- the only test is struck, and the list begins as if it were still held; without a test the empty set is the full list
  pub idle_strike : Lawful (loaded ∷ recorded ∷ done Strike ∷ opened ∷ gives (1 ∷ []) ∷ []) → ⊥
  -- m forced to 1 is told, but only m forced to 0 brings out what was measured
  pub takes_one_reading_for_another : Lawful (begun ++ gives (1 ∷ []) ∷ tells 1 ∷ []) → ⊥
  -- a reading of the last set is told after the end was said, when no reading is kept
  pub tells_after_end : Lawful (begun ++ gives (1 ∷ []) ∷ gives (2 ∷ 3 ∷ []) ∷ says_end ∷ tells 2 ∷ []) → ⊥
  -- only sets of just two gates are listed, so that the first set is passed over
  pub sets_of_exactly_n : Lawful (begun ++ gives (2 ∷ 3 ∷ []) ∷ []) → ⊥

abbrev pub first_list : History
first_list = gives (1 ∷ []) ∷ tells 0 ∷ refused_by 1 Strike ∷ gives (2 ∷ 3 ∷ []) ∷ says_end ∷ says_end ∷ []

abbrev pub opened_again : History
opened_again = done Close ∷ unmeasured ∷ opened ∷ []

abbrev pub second_list : History
second_list = gives (1 ∷ []) ∷ gives (3 ∷ []) ∷ says_end ∷ []

abbrev pub RightRunLawful : Type 0
RightRunLawful = Lawful (begun ++ (first_list ++ (opened_again ++ second_list)))
