-- A request, with the trees of its body.
use Rattle.std.specs.Prelude.{ℕ, List, Option}
use Rattle.std.specs.Option.{option_map}
use Rattle.serde_json.specs.Data.{Data}
use Rattle.serde_json.specs.View.{view}
use Rattle.rest_request.specs.declared.request.Request.{Request}
use Rattle.rest_request.specs.declared.request.Request.TheVariants as request

pub data Message : Type 0 where
  put_template : List ℕ → Data → Message
  put_stream : List ℕ → Message
  get_stream : List ℕ → Message
  delete_stream : List ℕ → Message
  bulk : Option (List ℕ) → List ℕ → Message
  rollover : List ℕ → Message
  block : List ℕ → Message
  downsample : List ℕ → List ℕ → Data → Message
  modify : Data → Message
  delete_index : List ℕ → Message
  put_lifecycle : List ℕ → Data → Message
  run_lifecycle : Message
  tasks : Message
  search_rows : List ℕ → Option Data → Message
  count_rows : List ℕ → Option Data → Message
  get_doc : List ℕ → List ℕ → Message
  flush : Message

-- a request in memory, as a message
abbrev pub seen : Request → Message
seen (request.PutTemplate name body) = put_template name (view body)
seen (request.PutStream name) = put_stream name
seen (request.GetStream name) = get_stream name
seen (request.DeleteStream name) = delete_stream name
seen (request.Bulk stream body) = bulk stream body
seen (request.Rollover stream) = rollover stream
seen (request.Block index) = block index
seen (request.Downsample source target body) = downsample source target (view body)
seen (request.Modify body) = modify (view body)
seen (request.DeleteIndex index) = delete_index index
seen (request.PutLifecycle stream body) = put_lifecycle stream (view body)
seen request.RunLifecycle = run_lifecycle
seen request.Tasks = tasks
seen (request.Search target body) = search_rows target (option_map view body)
seen (request.Count target body) = count_rows target (option_map view body)
seen (request.GetDoc index id) = get_doc index id
seen request.Flush = flush
