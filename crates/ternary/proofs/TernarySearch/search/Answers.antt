-- The first turn, what each turn does with what it found, and why the search ends.
use Rattle.std.proofs.Common.{◌≡◌, length, get_or, pos, neg_ℤ, ap, ◌∙◌, subst, w32, SFits, to_z, of_z, rules}
use Rattle.std.proofs.lemmas.Int.{to_z-of_z}
use Rattle.std.proofs.lemmas.Bool.{true≢false}
use Rattle.assignment.specs.Statuses.{Tells}
use Rattle.assignment.specs.declared.Status.{Status}
use Rattle.ternary.specs.Search.{Sought, decisions_of, trail_of, values_of}
use Rattle.ternary.proofs.Turns.{same_trans, sought_same, sound_same, turn_first, room_trail, room_decisions, forced, turn_assign, turn_assign_less, turn_none, turn_backtrack, backtrack_free, backtrack_forced, turn_flip_less}
use Rattle.ternary.proofs.TernarySearch.search.Goals as goal

pub loop-self-init : goal.loop-self-init
loop-self-init c =
    let g = c.list_occurrences-listed.ensures.sound in
    let e : length c.clear.new.places ≡ length c.list_occurrences-listed.new.self.values.now = search rules in
    turn_first _ _ (record {
      clauses_len = g.clauses_len;
      values_len = e ∙ g.values_len;
      trail_len = g.trail_len;
      decisions_len = g.decisions_len;
      counts = g.counts;
      in_range = g.in_range;
      small = g.small;
      literals = g.literals;
    }) c.clear.ensures

pub returns-in-None : goal.returns-in-None
returns-in-None c =
    let inv = c.loop-self.invariant in
    let b = c.in-None.ensures in
    let e₀ = c.list_occurrences-listed.ensures.same in
    let e = same_trans _ c.loop-self.self c.backtrack.new.self inv.same b.same in
    record {
      sound = sound_same c.loop-self.self c.backtrack.new.self inv.sound b.same b.values (ap length b.trail) (ap length b.decisions);
      same = record { clauses = e.clauses ∙ e₀.clauses; limit = e.limit ∙ e₀.limit; vars = e.vars ∙ e₀.vars; count = e.count ∙ e₀.count; room = e.room ∙ e₀.room };
      answer = λ row w. turn_none _ _ c.loop-self.self c.loop-self.len inv (subst (λ (t : Status). Tells (values_of c.loop-self.self) (Sought c.loop-self.self c.args.assumed.now) t) c.in-Conflict.is c.next_step-next.ensures) b.stop row (sought_same c.args.self.now c.list_occurrences-listed.new.self c.args.assumed.now e₀ row w);
    }

pub loop-self-smaller-in-Some : goal.loop-self-smaller-in-Some
loop-self-smaller-in-Some c =
    let b = c.in-Some.ensures in
    turn_flip_less _ _ c.loop-self.self c.loop-self.len c.loop-self.invariant c.backtrack.new.self c.in-Some.p b.same b.values b.trail b.decisions b.stop (decisions_of c.assign.new.self) c.assign.ensures.decisions

pub loop-self-preserved-in-Some : goal.loop-self-preserved-in-Some
loop-self-preserved-in-Some c =
    let inv = c.loop-self.invariant in
    let b = c.in-Some.ensures in
    let u = c.backtrack.new.self in
    let p = c.in-Some.p in
    let y = neg_ℤ (get_or (trail_of c.loop-self.self) p (pos 0)) in
    let f-r : SFits w32 c.negated-literal.result = search rules in
    let f-t : SFits w32 (get_or c.backtrack.new.self.trail.now c.in-Some.p (pos 0)) = search rules in
    let e : to_z w32 (of_z w32 c.negated-literal.result) ≡ y = to_z-of_z w32 c.negated-literal.result f-r ∙ c.negated-literal.ensures ∙ ap neg_ℤ (to_z-of_z w32 _ f-t) ∙ ap (λ ts. neg_ℤ (get_or ts p (pos 0))) b.trail in
    turn_assign _ _ u p
    (turn_backtrack _ _ c.loop-self.self c.loop-self.len inv u p b.same b.values b.trail b.decisions b.stop)
    c.assign.new.self y (pos 0)
    (backtrack_free _ _ c.loop-self.self c.loop-self.len inv u p b.same b.values b.trail b.decisions b.stop)
    (λ _. backtrack_forced _ _ c.loop-self.self c.loop-self.len inv u p b.same b.values b.trail b.decisions b.stop (subst (λ (t : Status). Tells (values_of c.loop-self.self) (Sought c.loop-self.self c.args.assumed.now) t) c.in-Conflict.is c.next_step-next.ensures))
    c.assign.ensures.same (rw e at c.assign.ensures.values) (rw e at c.assign.ensures.trail) c.assign.ensures.decisions

pub assign-requires-in-Forced : goal.assign-requires-in-Forced
assign-requires-in-Forced c =
    let free = (subst (λ (t : Status). Tells (values_of c.loop-self.self) (Sought c.loop-self.self c.args.assumed.now) t) c.in-Forced.is c.next_step-next.ensures).0 in
    let fits : SFits w32 c.in-Forced.literal = search rules in
    record {
      some = rw (to_z-of_z w32 c.in-Forced.literal fits) free.some;
      within = rw (to_z-of_z w32 c.in-Forced.literal fits) free.within;
      trail = room_trail _ _ c.loop-self.self c.loop-self.len c.loop-self.invariant c.in-Forced.literal free;
      decisions = room_decisions _ _ c.loop-self.self c.loop-self.len c.loop-self.invariant c.in-Forced.literal free;
    }

pub loop-self-smaller-in-Forced : goal.loop-self-smaller-in-Forced
loop-self-smaller-in-Forced c = turn_assign_less _ _ c.loop-self.self c.loop-self.len c.loop-self.invariant (decisions_of c.assign-in-Forced.new.self) c.in-Forced.literal (pos 0) (subst (λ (t : Status). Tells (values_of c.loop-self.self) (Sought c.loop-self.self c.args.assumed.now) t) c.in-Forced.is c.next_step-next.ensures).0 c.assign-in-Forced.ensures.decisions

pub loop-self-preserved-in-Forced : goal.loop-self-preserved-in-Forced
loop-self-preserved-in-Forced c =
    let inv = c.loop-self.invariant in
    let x = c.in-Forced.literal in
    let status = subst (λ (t : Status). Tells (values_of c.loop-self.self) (Sought c.loop-self.self c.args.assumed.now) t) c.in-Forced.is c.next_step-next.ensures in
    let fits : SFits w32 c.in-Forced.literal = search rules in
    let p = c.assign-in-Forced.ensures in
    turn_assign _ _ c.loop-self.self c.loop-self.len inv c.assign-in-Forced.new.self x (pos 0) status.0
    (λ _. forced _ _ c.loop-self.self c.loop-self.len inv x status.1)
    p.same (rw (to_z-of_z w32 x fits) at p.values) (rw (to_z-of_z w32 x fits) at p.trail) p.decisions

pub assign-requires-in-Open : goal.assign-requires-in-Open
assign-requires-in-Open c =
    let free = subst (λ (t : Status). Tells (values_of c.loop-self.self) (Sought c.loop-self.self c.args.assumed.now) t) c.in-Open.is c.next_step-next.ensures in
    let fits : SFits w32 c.in-Open.literal = search rules in
    record {
      some = rw (to_z-of_z w32 c.in-Open.literal fits) free.some;
      within = rw (to_z-of_z w32 c.in-Open.literal fits) free.within;
      trail = room_trail _ _ c.loop-self.self c.loop-self.len c.loop-self.invariant c.in-Open.literal free;
      decisions = room_decisions _ _ c.loop-self.self c.loop-self.len c.loop-self.invariant c.in-Open.literal free;
    }

pub loop-self-smaller : goal.loop-self-smaller
loop-self-smaller c = turn_assign_less _ _ c.loop-self.self c.loop-self.len c.loop-self.invariant (decisions_of c.assign-in-Open.new.self) c.in-Open.literal (pos 1) (subst (λ (t : Status). Tells (values_of c.loop-self.self) (Sought c.loop-self.self c.args.assumed.now) t) c.in-Open.is c.next_step-next.ensures) c.assign-in-Open.ensures.decisions

pub loop-self-preserved : goal.loop-self-preserved
loop-self-preserved c =
    let inv = c.loop-self.invariant in
    let x = c.in-Open.literal in
    let fits : SFits w32 c.in-Open.literal = search rules in
    let p = c.assign-in-Open.ensures in
    turn_assign _ _ c.loop-self.self c.loop-self.len inv c.assign-in-Open.new.self x (pos 1) (subst (λ (t : Status). Tells (values_of c.loop-self.self) (Sought c.loop-self.self c.args.assumed.now) t) c.in-Open.is c.next_step-next.ensures)
    (λ h. absurd (true≢false h))
    p.same (rw (to_z-of_z w32 x fits) at p.values) (rw (to_z-of_z w32 x fits) at p.trail) p.decisions
