-- The first candidate is the next set of a full list, and without candidates the list is at its end.
use Rattle.std.proofs.Common.{◌≡◌, ℕ, suc, ◌<◌, ◌≤◌, true, false, ◌||◌, eqb, List, [], ◌∷◌, ◌++◌, length, sym, refl, ap, ◌∙◌, subst, inl, ⊎_elim, append_assoc, append-nil, arith}
use Rattle.std.proofs.lemmas.Bool.{cases_Bool, ne_eqb, or_from, or_right}
use Rattle.circuit.specs.Circuits.{Circuit}
use Rattle.circuit.specs.Tests.{Test}
use Rattle.diagnosis.specs.Sets.{Marks, member, Ascends, IsSet, Within}
use Rattle.diagnosis.specs.Marked.{marked, count}
use Rattle.diagnosis.specs.Explains.{ExplainsCase, ExplainsSet}
use Rattle.diagnosis.specs.Order.{Lower, Before, In, InOrder}
use Rattle.diagnosis.specs.Minimal.{Minimal, IsFullList}
use Rattle.diagnosis.specs.Next.{Begins, Candidate, CandidateFor, AgreeBefore, EndsWithoutCandidates, FirstCandidateIsNext, NextByGates}
use Rattle.diagnosis.proofs.Members.{in_front, in_back, in_either}
use Rattle.diagnosis.proofs.Ordered.{before_itself, order_back, order_across}
use Rattle.diagnosis.proofs.Subsets.{member_range, no_member_below, member_first, whole_or_fewer}
use Rattle.diagnosis.proofs.Marked.{marked_set, marked_member, marked_count, explains_same}
use Rattle.diagnosis.proofs.Listed.{explaining_contains_minimal}

-- ── of two sets the lower has the first gate that is not in both ──
not_below : (a n : ℕ) (S : List ℕ) → Ascends a n S → (g : ℕ) → g < a → member S g ≡ false
not_below a n S asc g lt = ⊎_elim (λ t. absurd (no_member_below a n S asc g lt t)) (λ f. f) (cases_Bool (member S g))

pub lower_first : (a n : ℕ) (T S : List ℕ) → Ascends a n T → Ascends a n S → Lower T S → (g : ℕ) × (member T g ≡ true) × (member S g ≡ false) × ((i : ℕ) → i < g → member T i ≡ member S i)
lower_first a n [] S t s h = absurd h
lower_first a n (x ∷ T) [] t s h = absurd h
lower_first a n (x ∷ T) (y ∷ S) t s h =
    ⊎_elim
    (λ lt. (
      x,
      member_first x T,
      not_below (suc x) n (y ∷ S) (lt, s.1, s.2) x (omega arith),
      λ i l. not_below x n (x ∷ T) (omega arith, t.1, t.2) i l ∙ sym (not_below x n (y ∷ S) (omega arith, s.1, s.2) i l),
    ))
    (λ r.
    let e : x ≡ y = r.0 in
    let (g, on, off, same) = lower_first (suc x) n T S t.2 (subst (λ (z : ℕ). Ascends (suc z) n S) (sym e) s.2) r.1 in
    let above : suc x ≤ g = (member_range (suc x) n T t.2 g on).0 in
    (g, or_right (eqb g x) _ on, or_from (eqb g y) _ (ne_eqb g y (λ q. omega arith)) off, λ i l. λ k. eqb i (e k) || same i l k))
    h

module _ (n : ℕ) (Explaining : List ℕ → Type 0) (N : ℕ) (L given : List (List ℕ)) (full : IsFullList n Explaining N L) (begins : Begins given L) where
  given_in : (D : List ℕ) → In D given → In D L
  given_in D d = subst (λ (l : List (List ℕ)). In D l) begins.1 (in_front D given begins.0 d)

  rest_in : (R : List ℕ) → In R begins.0 → In R L
  rest_in R r = subst (λ (l : List (List ℕ)). In R l) begins.1 (in_back R given begins.0 r)

  order : InOrder (given ++ begins.0)
  order = subst (λ (l : List (List ℕ)). InOrder l) (sym begins.1) full.order

  -- the sets still to come are candidates
  pub to_come : (R : List ℕ) → In R begins.0 → Candidate n Explaining N given R
  to_come R r =
      let (set, few, min) = (full.each R).0 (rest_in R r) in
      record {
        set = set;
        few = few;
        explains = min.0;
        fresh = λ D d w.
            let (dset, dfew, dmin) = (full.each D).0 (given_in D d) in
            min.1 D dset (w, λ e. before_itself R (subst (λ (X : List ℕ). Before X R) e (order_across given begins.0 order D R d r))) dmin.0;
      }

  pub end_without_candidates : ((S : List ℕ) → Candidate n Explaining N given S → ⊥) → given ≡ L
  end_without_candidates none = sym (append-nil given) ∙ ap (λ r. given ++ r) (sym (empty begins.0 (λ R r. none R (to_come R r)))) ∙ begins.1
    where
      empty : (r : List (List ℕ)) → ((R : List ℕ) → In R r → ⊥) → r ≡ []
      empty [] none = refl
      empty (R ∷ r) none = absurd (none R (inl refl))

  -- what explains contains a minimal set, which was given with the whole list
  pub no_candidate_at_end : ((S : List ℕ) → IsSet n S → Explaining S → (T : List ℕ) × IsSet n T × Within T S × Minimal n Explaining T) → given ≡ L → (S : List ℕ) → Candidate n Explaining N given S → ⊥
  no_candidate_at_end contains e S cand =
      let (T, t, w, m) = contains S cand.set cand.explains in
      let few : length T ≤ length S = ⊎_elim (λ q. let l = ap length q in omega arith) (λ lt. omega arith) (whole_or_fewer n S T cand.set t w) in
      cand.fresh T (subst (λ (l : List (List ℕ)). In T l) (sym e) ((full.each T).1 (t, omega (arith, cand.few), m))) w

  module _ (S : List ℕ) (cand : Candidate n Explaining N given S) where
    -- the first candidate is minimal, since a subset of it that explains would be a candidate and come before
    first-minimal : ((T : List ℕ) → Candidate n Explaining N given T → Before T S → ⊥) → Minimal n Explaining S
    first-minimal first = (
      cand.explains,
      λ T t p x.
          ⊎_elim
          (λ e. p.1 e)
          (λ fewer. first T (record { set = t; few = omega (arith, cand.few); explains = x; fresh = λ D d v. cand.fresh D d (λ g m. p.0 g (v g m)) }) (inl fewer))
          (whole_or_fewer n S T cand.set t p.0),
    )

    pub first-is-next : ((T : List ℕ) → Candidate n Explaining N given T → Before T S → ⊥) → Begins (given ++ S ∷ []) L
    first-is-next first =
        ⊎_elim
        (λ front. absurd (cand.fresh S front (λ g m. m)))
        (λ back. let (more, e) = foremost begins.0 (order_back given begins.0 order) (λ R r. first R (to_come R r)) back in (more, append_assoc given (S ∷ []) more ∙ ap (λ r. given ++ r) (sym e) ∙ begins.1))
        (in_either S given begins.0 (subst (λ (l : List (List ℕ)). In S l) (sym begins.1) ((full.each S).1 (cand.set, cand.few, first-minimal first))))
      where
        foremost : (r : List (List ℕ)) → InOrder r → ((R : List ℕ) → In R r → Before R S → ⊥) → In S r → (more : List (List ℕ)) × (r ≡ S ∷ more)
        foremost [] o none h = absurd h
        foremost (R ∷ r) o none h = ⊎_elim (λ same. (r, ap (λ X. X ∷ r) (sym same))) (λ later. absurd (none R (inl refl) (o.0 S later))) h

    pub smallest-earliest-is-next :
        ((T : List ℕ) → Candidate n Explaining N given T → length T < length S → ⊥)
        → ((g : ℕ) (T : List ℕ) → 1 ≤ g → g ≤ n → member S g ≡ false → Candidate n Explaining N given T → length T ≡ length S → AgreeBefore g T S → member T g ≡ true → ⊥)
        → Begins (given ++ S ∷ []) L
    smallest-earliest-is-next smallest earliest =
        first-is-next
        (λ T t before.
        ⊎_elim
        (λ fewer. smallest T t fewer)
        (λ r.
        let (g, on, off, same) = lower_first 1 n T S t.set cand.set r.1 in
        let (low, high) = member_range 1 n T t.set g on in
        earliest g T low high off t r.0 (λ i l u. same i u) on)
        before)

-- marks that explain and do not cover a set given mark a candidate
pub marked_candidate :
    (c : Circuit) (ts : List Test) (N : ℕ) (given : List (List ℕ)) (s : Marks) → ((D : List ℕ) → In D given → IsSet (length c.gates) D)
    → count s (length c.gates) ≤ N → ExplainsCase c s ts → ((D : List ℕ) → In D given → ((g : ℕ) → member D g ≡ true → s g ≡ true) → ⊥)
    → CandidateFor c ts N given (marked s (length c.gates))
marked_candidate c ts N given s sets few explains fresh =
    let n = length c.gates in
    record {
      set = marked_set s n;
      few = omega (arith, marked_count s n);
      explains = explains_same c s (member (marked s n)) ts (λ g low high. sym (marked_member s n g low high)) explains;
      fresh = λ D d w. fresh D d (λ g m. let (low, high) = member_range 1 n D (sets D d) g m in sym (marked_member s n g low high) ∙ w g m);
    }

pub ends_without_candidates : EndsWithoutCandidates
ends_without_candidates c ts N L given full begins = (
  no_candidate_at_end (length c.gates) (ExplainsSet c ts) N L given full begins (explaining_contains_minimal c ts),
  end_without_candidates (length c.gates) (ExplainsSet c ts) N L given full begins,
)

pub first_candidate_is_next : FirstCandidateIsNext
first_candidate_is_next c ts N L given full begins S cand first = first-is-next (length c.gates) (ExplainsSet c ts) N L given full begins S cand first

pub next_by_gates : NextByGates
next_by_gates c ts N L given full begins S cand smallest earliest = smallest-earliest-is-next (length c.gates) (ExplainsSet c ts) N L given full begins S cand smallest earliest
