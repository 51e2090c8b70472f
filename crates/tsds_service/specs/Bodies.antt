-- What the bodies of some requests ask for.
use Rattle.std.specs.Prelude.{ℕ, ◌&&◌, nat_le, List, [], ◌∷◌, length, codes, bytes_eq, Option, Some, None, option_and_then, if◌then◌else◌}
use Rattle.std.specs.Option.{option_map}
use Rattle.json_walk.specs.Names.{has_names}
use Rattle.json_walk.specs.Shapes.{only_member}
use Rattle.lifecycle_swap.specs.Bodies.{interval_read}
use Rattle.serde_json.specs.Data.{Data, null, boolean, number, string, array, object, Items, no_items, item}
use Rattle.serde_json.specs.Find.{as_str, get}
use Rattle.stream_catalog.specs.declared.answers.Move.{Move}
use Rattle.stream_catalog.specs.declared.answers.Move.TheVariants.{Remove, Add}
use Rattle.time_text.specs.declared.intervals.Interval.{Interval}
use Rattle.tsds_service.specs.Limits.{most_moves}
use Rattle.tsds_service.specs.declared.moves.MoveNames.{MoveNames}

-- the interval of a downsampling: the body's one member
abbrev pub fixed_interval_of : Data → Option Interval
fixed_interval_of body = if has_names (codes "fixed_interval" ∷ []) body then option_and_then interval_read (get (codes "fixed_interval") body) else None

-- ---- moves

abbrev pub move_names : Option (List ℕ) → Option (List ℕ) → Option MoveNames
move_names (Some stream) (Some index) = Some (record { stream = stream; index = index })
move_names stream index = None

-- the stream and the index of a move
abbrev pub names_of_move : Data → Option MoveNames
names_of_move d =
    if has_names (codes "data_stream" ∷ codes "index" ∷ []) d
    then move_names (option_and_then as_str (get (codes "data_stream") d)) (option_and_then as_str (get (codes "index") d)) else None

abbrev pub removal : MoveNames → Move
removal n = Remove n.stream n.index

abbrev pub addition : MoveNames → Move
addition n = Add n.stream n.index

abbrev pub move_named : List ℕ × Data → Option Move
move_named m =
    if bytes_eq m.0 (codes "remove_backing_index") then option_map removal (names_of_move m.1)
    else (if bytes_eq m.0 (codes "add_backing_index") then option_map addition (names_of_move m.1) else None)

-- a move is an object of one member
abbrev pub move_of : Data → Option Move
move_of d = option_and_then move_named (only_member d)

abbrev pub with_move : Option Move → Option (List Move) → Option (List Move)
with_move (Some m) (Some ms) = Some (m ∷ ms)
with_move m ms = None

abbrev pub moves_in : Items → Option (List Move)
moves_in no_items = Some []
moves_in (item d ds) = with_move (move_of d) (moves_in ds)

abbrev pub moves_listed : Data → Option (List Move)
moves_listed null = None
moves_listed (boolean b) = None
moves_listed (number n) = None
moves_listed (string s) = None
moves_listed (array ds) = moves_in ds
moves_listed (object ms) = None

-- one or more, and no more than the limit
abbrev pub few_moves : List Move → Option (List Move)
few_moves ms = if nat_le 1 (length ms) && nat_le (length ms) most_moves then Some ms else None

-- the moves of a body: the list that is its one member
abbrev pub moves_of : Data → Option (List Move)
moves_of body =
    if has_names (codes "actions" ∷ []) body then option_and_then few_moves (option_and_then moves_listed (get (codes "actions") body)) else None
