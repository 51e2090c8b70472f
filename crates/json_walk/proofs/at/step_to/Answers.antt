use Rattle.std.proofs.Common.{◌≡◌, ◌+◌, ◌-◌, ◌≤◌, length, take, Some, option_map, sym, ap, ◌∙◌, arith}
use Rattle.json_walk.specs.Lent.{bytes_of, rest_path}
use Rattle.json_walk.specs.Path.{end, text, behind_name, below, whole}
use Rattle.json_walk.specs.PathLaws.{whole_next, place_before}
use Rattle.json_walk.proofs.at.step_to.Goals as goal
use Rattle.json_walk.proofs.at.step_to.Goals.{In-Some-Some}

next : (c : In-Some-Some) → behind_name c.args.name.now c.args.left.now ≡ Some (text c.in-Some-Some.rest.now)
next c = sym c.behind.ensures ∙ ap (option_map rest_path) c.in-Some-Some.is ∙ ap (λ r. Some (rest_path r)) c.in-Some-Some.field-0-is

parts : (c : In-Some-Some) → c.args.path.now ≡ whole (Some (below (bytes_of c.args.here) c.args.name.now)) (text c.in-Some-Some.rest.now)
parts c = c.requires ∙ whole_next (bytes_of c.args.here) c.args.name.now c.args.left.now (text c.in-Some-Some.rest.now) (next c)

front : (c : In-Some-Some) → (length c.in-Some-Some.rest.now + 1 ≤ length c.args.path.now)
    × (take (length c.args.path.now - length c.in-Some-Some.rest.now - 1) c.args.path.now ≡ below (bytes_of c.args.here) c.args.name.now)
front c = place_before c.args.path.now (below (bytes_of c.args.here) c.args.name.now) c.in-Some-Some.rest.now (parts c)

pub overflow_sub-result : goal.overflow_sub-result
overflow_sub-result c = let f = front c in omega (arith, f.0)

pub slice_bounds-result-count : goal.slice_bounds-result-count
slice_bounds-result-count c = let f = front c in omega (arith, f.0)

pub returns-in-Some-None : goal.returns-in-Some-None
returns-in-Some-None c =
    let next_end : behind_name c.args.name.now c.args.left.now ≡ Some end =
    sym c.behind.ensures ∙ ap (option_map rest_path) c.in-Some-None.is ∙ ap (λ r. Some (rest_path r)) c.in-Some-None.field-0-is in
    let all = c.requires ∙ whole_next (bytes_of c.args.here) c.args.name.now c.args.left.now end next_end in (next_end, all, all)

pub returns-in-Some-Some : goal.returns-in-Some-Some
returns-in-Some-Some c = let f = front c in (next c, f.1, parts c)
