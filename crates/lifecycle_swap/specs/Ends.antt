-- How far ahead of the present a window reaches.
use Rattle.std.specs.Prelude.{ℤ, ◌+ℤ◌}
use Rattle.time_text.specs.Moment.{cut}

-- as far behind an instant as a template looks ahead, cut to the range of instants
abbrev pub end_after : ℤ → ℤ → ℤ
end_after from look_ahead = cut (from +ℤ look_ahead)
