-- What a request that is read keeps.
use Rattle.std.specs.Prelude.{◌≤◌, ℕ, List, length, Option, None, Some, IsTrue}
use Rattle.edge_face.specs.Limits.{body_limit}
use Rattle.serde_json.specs.Data.{Data}
use Rattle.json_walk.specs.Shapes.{is_object}
use Rattle.index_names.specs.Names.{is_stream_name, is_target_name, is_index_name}
use Rattle.bulk_json.specs.Sound.{IsPath}
use Rattle.rest_request.specs.Message.{Message, put_template, put_stream, get_stream, delete_stream, bulk, rollover, block, downsample, modify, delete_index, put_lifecycle, run_lifecycle, tasks, search_rows, count_rows, get_doc, flush}
use Rattle.rest_request.specs.Target.{is_id}

abbrev pub IsStream : List ℕ → Type 0
IsStream name = IsTrue (is_stream_name name)

abbrev pub IsIndex : List ℕ → Type 0
IsIndex name = IsTrue (is_index_name name)

abbrev pub IsBody : Data → Type 0
IsBody d = IsTrue (is_object d)

abbrev pub IsBodyIfAny : Option Data → Type 0
IsBodyIfAny None = Unit {0}
IsBodyIfAny (Some d) = IsBody d

-- its names are of their kinds, a body is an object where one is asked, and that of a bulk request is within its length
abbrev pub IsAsked : Message → Type 0
IsAsked (put_template name body) = IsStream name × IsBody body
IsAsked (put_stream name) = IsStream name
IsAsked (get_stream name) = IsStream name
IsAsked (delete_stream name) = IsStream name
IsAsked (bulk stream body) = IsPath stream × (length body ≤ body_limit)
IsAsked (rollover stream) = IsStream stream
IsAsked (block index) = IsIndex index
IsAsked (downsample source target body) = IsIndex source × (IsTrue (is_target_name target) × IsBody body)
IsAsked (modify body) = IsBody body
IsAsked (delete_index index) = IsIndex index
IsAsked (put_lifecycle stream body) = IsStream stream × IsBody body
IsAsked run_lifecycle = Unit {0}
IsAsked tasks = Unit {0}
IsAsked (search_rows target body) = IsIndex target × IsBodyIfAny body
IsAsked (count_rows target body) = IsIndex target × IsBodyIfAny body
IsAsked (get_doc index id) = IsIndex index × IsTrue (is_id id)
IsAsked flush = Unit {0}
