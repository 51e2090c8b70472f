-- What lies in memory, as the definitions see it.
use Rattle.std.specs.Prelude.{ℕ, List}
use Rattle.std.specs.Borrow.{Bor}
use Rattle.rest_request.specs.Path as path
use Rattle.rest_request.specs.declared.path.Place.{Place}

abbrev pub seen_cut : Bor (List ℕ) × Bor (List ℕ) → List ℕ × List ℕ
seen_cut parts = (parts.0.now, parts.1.now)

abbrev pub seen_place : Place → path.Place
seen_place p = (p.shape, (p.first.now, p.second.now))
