-- Three literals, one after another.
use Rattle.std.proofs.Common.{◌≡◌, ◌+◌, ◌*◌, true, false, ◌||◌, get_or, pos, w32, SFits, rules}
use Rattle.std.proofs.lemmas.Int.{to_z-of_z}
use Rattle.std.proofs.lemmas.Bool.{false≢true}
use Rattle.assignment.specs.Stored.{place_true}
use Rattle.assignment.specs.Statuses.{Tells}
use Rattle.ternary.proofs.assigned.Assigned.clause_status.Goals as goal

pub returns : goal.returns
returns c =
    let vs = c.args.self.now.values.now in
    let xs = c.args.self.now.places.now in
    let k = c.args.k in
    let x = get_or xs (3 * k) (pos 0) in
    let y = get_or xs (3 * k + 1) (pos 0) in
    let z = get_or xs (3 * k + 2) (pos 0) in
    let f-0 : SFits w32 (get_or xs (3 * k) (pos 0)) = search rules in
    let f-1 : SFits w32 (get_or xs (3 * k + 1) (pos 0)) = search rules in
    let f-2 : SFits w32 (get_or xs (3 * k + 2) (pos 0)) = search rules in
    let one : Tells vs (λ row. place_true row x ≡ true) c.with_literal-one.result = rw (to_z-of_z w32 x f-0) at (c.with_literal-one.ensures (λ _. false) (λ _ _ h. false≢true h)) in
    let two : Tells vs (λ row. (place_true row x || place_true row y) ≡ true) c.with_literal-two.result = rw (to_z-of_z w32 y f-1) at (c.with_literal-two.ensures (λ row. place_true row x) one) in
    rw (to_z-of_z w32 z f-2) at (c.with_literal.ensures (λ row. place_true row x || place_true row y) two)
