-- A run that is lawful, event by event.
use Rattle.std.proofs.Common.{[], ◌∷◌, ◌++◌, refl}
use Rattle.test_format.specs.Packing.{bits, unpack}
use Rattle.test_format.specs.Records.{ones, filled}
use Rattle.test_format.specs.Amending.{replaced}
use Rattle.run_law.specs.Calls.{Load, Record, Amend, Strike, Open, Close}
use Rattle.run_law.specs.Held.{Held, nothing, held_after}
use Rattle.run_law.specs.Law.{AtEvent}
use Rattle.run_law.specs.WrongRuns.{text_p, roomy, gives, tells, no_to, refused_by, begun, first_list, opened_again, second_list, RightRunLawful}
use Rattle.run_law.proofs.Histories.{LawfulFrom, lawful_from_turns}
use Rattle.run_law.proofs.Steps.{refused_event, done_event, changed_event, gave_event, ended_event, told_event}
use Rattle.run_law.proofs.Runs.{test_p, as_begun, one_brought_out, in_turn_and_on}

begun_in_turn : LawfulFrom nothing begun
unfolding bits unpack ones filled
begun_in_turn = (
  changed_event nothing (Load text_p) refl refl (λ _. refl),
  (changed_event _ (Record (3 ∷ 3 ∷ 2 ∷ [])) refl refl (λ _. refl), (changed_event _ (Open 2) refl refl (λ _. refl), tt)),
)

-- what is held once the first set is given
abbrev one_given : Held
one_given = held_after (begun ++ gives (1 ∷ []) ∷ [])

-- m forced to 0 brings out the test
zero_told : AtEvent one_given (tells 0)
unfolding bits unpack ones filled
zero_told =
    told_event one_given 0 0 refl (as_begun one_given ((2 ∷ 3 ∷ []) ∷ [], refl)) (one_brought_out one_given 0 0 (1 ∷ []) test_p (refl, refl, refl))

-- tests do not change while a list is open
strike_refused : AtEvent one_given (refused_by 1 Strike)
unfolding bits unpack ones filled
strike_refused = refused_event one_given Strike (no_to 1) refl (as_begun one_given ((2 ∷ 3 ∷ []) ∷ [], refl))

first_list_in_turn : LawfulFrom (held_after begun) first_list
unfolding bits unpack ones filled
first_list_in_turn = (
  gave_event _ roomy (1 ∷ []) refl ((2 ∷ 3 ∷ []) ∷ [], refl),
  (zero_told, (strike_refused, (gave_event _ roomy (2 ∷ 3 ∷ []) refl ([], refl), (ended_event _ roomy refl refl, (ended_event _ roomy refl refl, tt))))),
)

opened_again_in_turn : LawfulFrom (held_after (begun ++ first_list)) opened_again
unfolding bits unpack ones filled replaced
opened_again_in_turn = (
  done_event _ Close refl refl tt,
  (changed_event _ (Amend 0 1 2) refl refl (λ _. refl), (changed_event _ (Open 2) refl refl (λ _. refl), tt)),
)

second_list_in_turn : LawfulFrom (held_after (begun ++ (first_list ++ opened_again))) second_list
unfolding bits unpack ones filled replaced
second_list_in_turn = (
  gave_event _ roomy (1 ∷ []) refl ((3 ∷ []) ∷ [], refl),
  (gave_event _ roomy (3 ∷ []) refl ([], refl), (ended_event _ roomy refl refl, tt)),
)

pub right_run_lawful : RightRunLawful
right_run_lawful =
    lawful_from_turns (begun ++ (first_list ++ (opened_again ++ second_list)))
    (in_turn_and_on nothing begun (first_list ++ (opened_again ++ second_list)) begun_in_turn
    (in_turn_and_on (held_after begun) first_list (opened_again ++ second_list) first_list_in_turn
    (in_turn_and_on (held_after (begun ++ first_list)) opened_again second_list opened_again_in_turn second_list_in_turn)))
