-- What a lawful run says of its last event, and what makes an event lawful, with the full list as it computes.
--   test_p   the test that the small runs record
use Rattle.std.proofs.Common.{◌≡◌, ℕ, true, false, List, [], ◌∷◌, ◌++◌, Some, None, refl}
use Rattle.std.specs.List.{slice_get}
use Rattle.refusal.specs.declared.Refusal.{Refusal}
use Rattle.circuit.specs.Tests.{Test}
use Rattle.diagnosis.specs.Sets.{member}
use Rattle.diagnosis.specs.Explains.{brings_out}
use Rattle.diagnosis.specs.Order.{In}
use Rattle.diagnosis.specs.FullList.{full_list}
use Rattle.diagnosis.specs.Next.{Begins}
use Rattle.diagnosis.specs.Readings.{forced_by}
use Rattle.diagnosis.proofs.Listed.{full_list_exact}
use Rattle.solver.specs.Meaning.{Sizes}
use Rattle.run_law.specs.Calls.{Call, Next, Readings, Answer, Refused, End, Told, Event, History}
use Rattle.run_law.specs.Held.{Held, after, held_from, held_after}
use Rattle.run_law.specs.Questions.{latest, asked}
use Rattle.run_law.specs.Law.{WhileOpen, BeginsList, EndsWhen, BringsOut, Lawful}
use Rattle.run_law.proofs.Histories.{LawfulFrom, lawful_at}
use Rattle.run_law.proofs.Steps.{while_open_lem, begins_list, begins_full_list, told_brings_out}

abbrev pub test_p : Test
test_p = record { inputs = true ∷ true ∷ false ∷ []; outputs = Some false ∷ Some true ∷ [] }

-- the sets given begin the full list
pub given_begin : (before : History) (e : Event) → Lawful (before ++ e ∷ []) → WhileOpen (after (held_after before) e) (λ c ts l. Begins l.given (full_list c ts l.bound))
given_begin before e lawful =
    while_open_lem (after (held_after before) e) BeginsList (λ c ts l. Begins l.given (full_list c ts l.bound)) begins_full_list (lawful_at before [] e lawful).begins

-- where the end is said, each set of the full list was given
pub all_given_at_end :
    (before : History) (z : Sizes) → asked (held_after before) (Next z) ≡ None → Lawful (before ++ record { call = Next z; answer = End } ∷ [])
    → WhileOpen (held_after before) (λ c ts l. (S : List ℕ) → In S (full_list c ts l.bound) → In S l.given)
all_given_at_end before z none lawful =
    while_open_lem (held_after before) (EndsWhen (held_after before) (record { call = Next z; answer = End })) (λ c ts l. (S : List ℕ) → In S (full_list c ts l.bound) → In S l.given)
    (λ c ts l says. (says z refl none (full_list c ts l.bound) (full_list_exact c ts l.bound)).0 refl)
    (lawful_at before [] (record { call = Next z; answer = End }) lawful).ends

-- a call that a question refuses is not answered in any other way
pub refused_at_last :
    (before : History) (k : Call) (a : Answer) (r : Refusal) → asked (held_after before) k ≡ Some r → Lawful (before ++ record { call = k; answer = a } ∷ []) → a ≡ Refused r
refused_at_last before k a r says lawful = ((lawful_at before [] (record { call = k; answer = a }) lawful).refused r).1 says

-- the sets given that begin the full list as it computes begin each full list
pub as_begun : (h : Held) → WhileOpen h (λ c ts l. Begins l.given (full_list c ts l.bound)) → WhileOpen h BeginsList
as_begun h = while_open_lem h (λ c ts l. Begins l.given (full_list c ts l.bound)) BeginsList begins_list

-- a byte that brings out the test of this number, on the set given last
pub one_brought_out :
    (h : Held) (t b : ℕ) (S : List ℕ) (test : Test)
    → WhileOpen h (λ c ts l. (latest l ≡ Some S) × (slice_get ts t ≡ Some test) × (brings_out c (member S) (forced_by S b) test ≡ true))
    → WhileOpen h (BringsOut (record { call = Readings t; answer = Told b }))
one_brought_out h t b S test known =
    told_brings_out h t b
    (while_open_lem h (λ c ts l. (latest l ≡ Some S) × (slice_get ts t ≡ Some test) × (brings_out c (member S) (forced_by S b) test ≡ true))
    (λ c ts l. (U : List ℕ) (u : Test) → latest l ≡ Some U → slice_get ts t ≡ Some u → brings_out c (member U) (forced_by U b) u ≡ true)
    (λ c ts l so U u last there. let (last', there', brought) = so in
    let set : S ≡ U = cc in
    let same : test ≡ u = cc in
    cc)
    known)

-- a run that is lawful in turn, and then another from what it leaves held
pub in_turn_and_on : (h : Held) (run more : History) → LawfulFrom h run → LawfulFrom (held_from h run) more → LawfulFrom h (run ++ more)
in_turn_and_on h [] more turns then = then
in_turn_and_on h (e ∷ es) more turns then = (turns.0, in_turn_and_on (after h e) es more turns.1 then)
