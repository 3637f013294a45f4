-- What the law asks of an event, for each kind of call and answer, from what the code knows when it answers.
use Rattle.std.proofs.Common.{◌≡◌, ℕ, true, not, List, [], ◌∷◌, ◌++◌, is_some, Some, None, Option, sym, refl, ap, ◌∙◌, subst, inl, inr, ⊎_elim, append_assoc, append-nil, arith}
use mathlib.Core.Bool.{false≢true}
use Rattle.std.specs.List.{slice_get}
use Rattle.std.specs.Option.{option_map}
use Rattle.std.proofs.lemmas.Bool.{and_parts, cases_Bool, cond-false}
use Rattle.refusal.specs.declared.Refusal.{Refusal}
use Rattle.circuit.specs.Circuits.{Circuit}
use Rattle.circuit.specs.Tests.{Test}
use Rattle.netlist_text.specs.Netlists.{Netlist}
use Rattle.solver.specs.Meaning.{Sizes}
use Rattle.diagnosis.specs.Sets.{member}
use Rattle.diagnosis.specs.Explains.{brings_out}
use Rattle.diagnosis.specs.Order.{In}
use Rattle.diagnosis.specs.Minimal.{FullListFor}
use Rattle.diagnosis.specs.FullList.{full_list}
use Rattle.diagnosis.specs.Next.{Begins}
use Rattle.diagnosis.specs.Readings.{forced_by}
use Rattle.diagnosis.proofs.Members.{in_back}
use Rattle.diagnosis.proofs.Listed.{full_list_exact, full_list_unique, full_list_once}
use Rattle.run_law.specs.Calls.{Call, Load, Record, Amend, Strike, Open, Next, Close, Readings, Answer, Refused, Done, Gave, End, Told}
use Rattle.run_law.specs.Held.{Listing, Held, new_listing, grown, accepted, with_listing}
use Rattle.run_law.specs.Questions.{latest, due, asked_of, asked}
use Rattle.run_law.specs.Law.{while_open, WhileOpen, BeginsList, RefusedWhen, EndsWhen, BringsOut, InKind, AtEvent}

abbrev Fact : Type 1
Fact = Circuit → List Test → Listing → Type 0

-- ── what is so while a list is open ──
of_open : (P Q : Fact) → ((c : Circuit) (ts : List Test) (l : Listing) → P c ts l → Q c ts l) → (n : Option Netlist) (ts : List Test) (l : Option Listing) → while_open n ts l P → while_open n ts l Q
of_open P Q f None ts l h = tt
of_open P Q f (Some n) ts None h = tt
of_open P Q f (Some n) ts (Some l) h = f n.circuit ts l h

of_any : (Q : Fact) → ((c : Circuit) (ts : List Test) (l : Listing) → Q c ts l) → (n : Option Netlist) (ts : List Test) (l : Option Listing) → while_open n ts l Q
of_any Q f None ts l = tt
of_any Q f (Some n) ts None = tt
of_any Q f (Some n) ts (Some l) = f n.circuit ts l

of_answered : (a : Answer) (P Q : Fact) → ((c : Circuit) (ts : List Test) (l : Listing) → P c ts l → Q c ts (grown a l)) → (n : Option Netlist) (ts : List Test) (l : Option Listing) → while_open n ts l P → while_open n ts (option_map (grown a) l) Q
of_answered a P Q f None ts l h = tt
of_answered a P Q f (Some n) ts None h = tt
of_answered a P Q f (Some n) ts (Some l) h = f n.circuit ts l h

of_closed : (Q : Fact) (n : Option Netlist) (ts : List Test) (l : Option Listing) → l ≡ None → while_open n ts l Q
of_closed Q n ts l e = subst (λ (k : Option Listing). while_open n ts k Q) (sym e) (none n)
  where
    none : (n : Option Netlist) → while_open n ts None Q
    none None = tt
    none (Some n) = tt

pub while_open_lem : (h : Held) (P Q : Fact) → ((c : Circuit) (ts : List Test) (l : Listing) → P c ts l → Q c ts l) → WhileOpen h P → WhileOpen h Q
while_open_lem h P Q f = of_open P Q f h.netlist h.tests h.listing

pub always : (h : Held) (Q : Fact) → ((c : Circuit) (ts : List Test) (l : Listing) → Q c ts l) → WhileOpen h Q
always h Q f = of_any Q f h.netlist h.tests h.listing

pub while_closed : (h : Held) (Q : Fact) → h.listing ≡ None → WhileOpen h Q
while_closed h Q e = of_closed Q h.netlist h.tests h.listing e

-- after the answer to a next
pub while_answered : (h : Held) (a : Answer) (P Q : Fact) → ((c : Circuit) (ts : List Test) (l : Listing) → P c ts l → Q c ts (grown a l)) → WhileOpen h P → WhileOpen (with_listing h (option_map (grown a) h.listing)) Q
while_answered h a P Q f = of_answered a P Q f h.netlist h.tests h.listing

-- ── the full list ──
pub begins_list : (c : Circuit) (ts : List Test) (l : Listing) → Begins l.given (full_list c ts l.bound) → BeginsList c ts l
begins_list c ts l b L full = subst (λ (K : List (List ℕ)). Begins l.given K) (full_list_unique c ts l.bound _ L (full_list_exact c ts l.bound) full) b

pub begins_full_list : (c : Circuit) (ts : List Test) (l : Listing) → BeginsList c ts l → Begins l.given (full_list c ts l.bound)
begins_full_list c ts l b = b _ (full_list_exact c ts l.bound)

-- a set that comes after those given was not given
new_set : (c : Circuit) (ts : List Test) (N : ℕ) (given L : List (List ℕ)) (S : List ℕ) → FullListFor c ts N L → Begins (given ++ S ∷ []) L → ((T : List ℕ) → In T L → In T given) → ⊥
new_set c ts N given L S full begins every =
    let (rest, e) = begins in
    let here : given ++ S ∷ rest ≡ L = sym (append_assoc given (S ∷ []) rest) ∙ e in
    full_list_once c ts N L full S given rest here (inl (every S (subst (λ (K : List (List ℕ)). In S K) here (in_back S given (S ∷ rest) (inl refl)))))

-- ── accepted or refused ──
some_none : (r : Refusal) → Some r ≡ None → ⊥
some_none r e = let z : ◌≡◌ {A = ℕ} 0 1 = cc in omega arith

accepted_when : (h : Held) (k : Call) (a : Answer) → ((r : Refusal) → a ≡ Refused r → ⊥) → asked h k ≡ None → RefusedWhen h (record { call = k; answer = a })
accepted_when h k a other none r = (λ e. absurd (other r e), λ e. absurd (some_none r (sym e ∙ none)))

-- the first question is answered with a yes where all are
is_due : (h : Held) (k : Call) → asked h k ≡ None → due h k ≡ true
is_due h k none = ⊎_elim (λ yes. yes) (λ late. absurd (some_none _ (sym (cond-false (due h k) (asked_of h k) _ late) ∙ none))) (cases_Bool (due h k))

none_there : {A : Type 0} (o : Option A) → not (is_some o) ≡ true → o ≡ None
none_there None e = refl
none_there (Some x) e = absurd (false≢true e)

pub refused_event : (h : Held) (k : Call) (r : Refusal) → asked h k ≡ Some r → WhileOpen h BeginsList → AtEvent h (record { call = k; answer = Refused r })
refused_event h k r said begins = record {
  begins = begins;
  refused = λ s. (λ e. let same : r ≡ s = cc in said ∙ ap Some same, λ e. let same : r ≡ s = cc in ap Refused same);
  ends = always h _ (λ c ts l z e none. absurd (some_none r (sym said ∙ none)));
  brings_out = always h _ (λ c ts l t b e told. absurd (let z : ◌≡◌ {A = ℕ} 0 1 = cc in omega arith));
  in_kind = λ none. absurd (some_none r (sym said ∙ none));
}

-- ── done: load, record, amend, strike, open and close ──
never_done_next : (z : Sizes) → InKind (Next z) Done → ⊥
never_done_next z kind = ⊎_elim (λ e. let q : ◌≡◌ {A = ℕ} 0 1 = cc in omega arith) (λ gave. let e = gave.1 in let q : ◌≡◌ {A = ℕ} 0 1 = cc in omega arith) kind

never_done_reading : (t : ℕ) → InKind (Readings t) Done → ⊥
never_done_reading t kind = let e = kind.1 in let q : ◌≡◌ {A = ℕ} 0 1 = cc in omega arith

pub done_event : (h : Held) (k : Call) → InKind k Done → asked h k ≡ None → WhileOpen (accepted h k Done) BeginsList → AtEvent h (record { call = k; answer = Done })
done_event h k kind none begins = record {
  begins = begins;
  refused = accepted_when h k Done (λ r e. let q : ◌≡◌ {A = ℕ} 0 1 = cc in omega arith) none;
  ends = always h _ (λ c ts l z e _. absurd (never_done_next z (subst (λ (j : Call). InKind j Done) e kind)));
  brings_out = always h _ (λ c ts l t b e told. absurd (let q : ◌≡◌ {A = ℕ} 0 1 = cc in omega arith));
  in_kind = λ _. kind;
}

-- none of these calls leaves a list open but open, whose list is new: a netlist is loaded before there is a list, and tests change while none is open
pub done_begins : (h : Held) (k : Call) → InKind k Done → asked h k ≡ None → (h.netlist ≡ None → h.listing ≡ None) → WhileOpen (accepted h k Done) BeginsList
done_begins h (Load text) kind none together = while_closed (accepted h (Load text) Done) BeginsList (together (none_there h.netlist (is_due h (Load text) none)))
done_begins h (Record bytes) kind none together = while_closed (accepted h (Record bytes) Done) BeginsList (none_there h.listing (and_parts (is_some h.netlist) (not (is_some h.listing)) (is_due h (Record bytes) none)).1)
done_begins h (Amend t o v) kind none together = while_closed (accepted h (Amend t o v) Done) BeginsList (none_there h.listing (and_parts (is_some h.netlist) (not (is_some h.listing)) (is_due h (Amend t o v) none)).1)
done_begins h Strike kind none together = while_closed (accepted h Strike Done) BeginsList (none_there h.listing (and_parts (is_some h.netlist) (not (is_some h.listing)) (is_due h Strike none)).1)
done_begins h (Open N) kind none together = newly-opened h.netlist
  where
    newly-opened : (n : Option Netlist) → while_open n h.tests (Some (new_listing N)) BeginsList
    newly-opened None = tt
    newly-opened (Some n) = λ L full. (L, refl)
done_begins h (Next z) kind none together = absurd (never_done_next z kind)
done_begins h Close kind none together = while_closed (accepted h Close Done) BeginsList refl
done_begins h (Readings t) kind none together = absurd (never_done_reading t kind)

-- so the code has to know no more than that a list is open only where a netlist is in
pub changed_event : (h : Held) (k : Call) → InKind k Done → asked h k ≡ None → (h.netlist ≡ None → h.listing ≡ None) → AtEvent h (record { call = k; answer = Done })
changed_event h k kind none together = done_event h k kind none (done_begins h k kind none together)

-- ── next ──
pub gave_event :
    (h : Held) (z : Sizes) (S : List ℕ) → asked h (Next z) ≡ None → WhileOpen h (λ c ts l. Begins (l.given ++ S ∷ []) (full_list c ts l.bound))
    → AtEvent h (record { call = Next z; answer = Gave S })
gave_event h z S none begins = record {
  begins = while_answered h (Gave S) (λ c ts l. Begins (l.given ++ S ∷ []) (full_list c ts l.bound)) BeginsList (λ c ts l b. begins_list c ts (grown (Gave S) l) b) begins;
  refused = accepted_when h (Next z) (Gave S) (λ r e. let q : ◌≡◌ {A = ℕ} 0 1 = cc in omega arith) none;
  ends =
      while_open_lem h (λ c ts l. Begins (l.given ++ S ∷ []) (full_list c ts l.bound)) (EndsWhen h (record { call = Next z; answer = Gave S }))
      (λ c ts l b y e _ L full. (
        λ said. absurd (let q : ◌≡◌ {A = ℕ} 0 1 = cc in omega arith),
        λ every. absurd (new_set c ts l.bound l.given L S full (begins_list c ts (grown (Gave S) l) b L full) every),
      ))
      begins;
  brings_out = always h _ (λ c ts l t b e told. absurd (let q : ◌≡◌ {A = ℕ} 0 1 = cc in omega arith));
  in_kind = λ _. inr (S, refl);
}

pub ended_event : (h : Held) (z : Sizes) → asked h (Next z) ≡ None → WhileOpen h (λ c ts l. l.given ≡ full_list c ts l.bound) → AtEvent h (record { call = Next z; answer = End })
ended_event h z none whole = record {
  begins = while_answered h End (λ c ts l. l.given ≡ full_list c ts l.bound) BeginsList (λ c ts l e. begins_list c ts (grown End l) ([], append-nil l.given ∙ e)) whole;
  refused = accepted_when h (Next z) End (λ r e. let q : ◌≡◌ {A = ℕ} 0 1 = cc in omega arith) none;
  ends =
      while_open_lem h (λ c ts l. l.given ≡ full_list c ts l.bound) (EndsWhen h (record { call = Next z; answer = End }))
      (λ c ts l e y _ _ L full. (
        λ _ S i. subst (λ (K : List (List ℕ)). In S K) (full_list_unique c ts l.bound L _ full (full_list_exact c ts l.bound) ∙ sym e) i,
        λ _. refl,
      ))
      whole;
  brings_out = always h _ (λ c ts l t b e told. absurd (let q : ◌≡◌ {A = ℕ} 0 1 = cc in omega arith));
  in_kind = λ _. inl refl;
}

-- ── readings ──
-- the code has one test and one byte
pub told_brings_out :
    (h : Held) (t b : ℕ) → WhileOpen h (λ c ts l. (S : List ℕ) (test : Test) → latest l ≡ Some S → slice_get ts t ≡ Some test → brings_out c (member S) (forced_by S b) test ≡ true)
    → WhileOpen h (BringsOut (record { call = Readings t; answer = Told b }))
told_brings_out h t b known =
    while_open_lem h (λ c ts l. (S : List ℕ) (test : Test) → latest l ≡ Some S → slice_get ts t ≡ Some test → brings_out c (member S) (forced_by S b) test ≡ true) (BringsOut (record { call = Readings t; answer = Told b }))
    (λ c ts l so u d call answer S test last there.
    let number : u ≡ t = cc in
    let byte : b ≡ d = cc in
    subst (λ (x : ℕ). brings_out c (member S) (forced_by S x) test ≡ true) byte (so S test last (ap (λ x. slice_get ts x) (sym number) ∙ there)))
    known

pub told_event :
    (h : Held) (t b : ℕ) → asked h (Readings t) ≡ None → WhileOpen h BeginsList → WhileOpen h (BringsOut (record { call = Readings t; answer = Told b }))
    → AtEvent h (record { call = Readings t; answer = Told b })
told_event h t b none begins brings_out = record {
  begins = begins;
  refused = accepted_when h (Readings t) (Told b) (λ r e. let q : ◌≡◌ {A = ℕ} 0 1 = cc in omega arith) none;
  ends = always h _ (λ c ts l z e _. absurd (let q : ◌≡◌ {A = ℕ} 0 1 = cc in omega arith));
  brings_out = brings_out;
  in_kind = λ _. (b, refl);
}
