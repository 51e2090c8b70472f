-- How the code goes through the table of requests: the message of a form, or the first refusal. For private clauses; `TableLaws`
-- says that it comes to the same.
use Rattle.std.specs.Prelude.{ℕ, List, if◌then◌else◌, Option, None, Some, Result, Err}
use Rattle.std.specs.Option.{option_map}
use Rattle.serde_json.specs.Data.{Data}
use Rattle.rest_request.specs.Body.{object_of, optional_of, is_nothing}
use Rattle.rest_request.specs.Form.{form_of}
use Rattle.rest_request.specs.Message.{Message, put_template, put_stream, get_stream, delete_stream, bulk, rollover, block, downsample, modify, delete_index, put_lifecycle, run_lifecycle, tasks, search_rows, count_rows, get_doc, flush}
use Rattle.rest_request.specs.Path.{Place, place_of}
use Rattle.rest_request.specs.Query.{are_known}
use Rattle.rest_request.specs.Table.{on_message}
use Rattle.rest_request.specs.Target.{cut, split_target}
use Rattle.rest_request.specs.declared.form.Bare.{Bare}
use Rattle.rest_request.specs.declared.form.Bare.TheVariants as bare
use Rattle.rest_request.specs.declared.form.Full.{Full}
use Rattle.rest_request.specs.declared.form.Full.TheVariants as full
use Rattle.rest_request.specs.declared.form.Optional.{Optional}
use Rattle.rest_request.specs.declared.form.Optional.TheVariants as optional
use Rattle.rest_request.specs.declared.form.Form.{Form}
use Rattle.rest_request.specs.declared.form.Form.TheVariants as form
use Rattle.rest_request.specs.declared.request.RequestError.{RequestError}
use Rattle.rest_request.specs.declared.request.RequestError.TheVariants.{NoSuchPath, BadMethod, BadParameter}

abbrev pub bare_of : Bare → List ℕ → List ℕ → Message
bare_of bare.PutStream first second = put_stream first
bare_of bare.GetStream first second = get_stream first
bare_of bare.DeleteStream first second = delete_stream first
bare_of bare.Rollover first second = rollover first
bare_of bare.Block first second = block first
bare_of bare.DeleteIndex first second = delete_index first
bare_of bare.RunLifecycle first second = run_lifecycle
bare_of bare.Tasks first second = tasks
bare_of bare.GetDoc first second = get_doc first second
bare_of bare.Flush first second = flush

abbrev pub full_of : Full → List ℕ → List ℕ → Data → Message
full_of full.PutTemplate first second body = put_template first body
full_of full.Downsample first second body = downsample first second body
full_of full.Modify first second body = modify body
full_of full.PutLifecycle first second body = put_lifecycle first body

abbrev pub optional_of_form : Optional → List ℕ → Option Data → Message
optional_of_form optional.Search first body = search_rows first body
optional_of_form optional.Count first body = count_rows first body

-- the message of a form with the names of its path, where the body is one that the form takes
abbrev pub message_of : Form → List ℕ → List ℕ → List ℕ → Option Message
message_of (form.Bare b) first second body = if is_nothing body then Some (bare_of b first second) else None
message_of (form.Full f) first second body = option_map (full_of f first second) (object_of body)
message_of (form.Optional o) first second body = option_map (optional_of_form o first) (optional_of body)
message_of form.Bulk first second body = Some (bulk None body)
message_of form.StreamBulk first second body = Some (bulk (Some first) body)

abbrev pub on_form : List ℕ → List ℕ → List ℕ × List ℕ → Option Form → Result Message RequestError
on_form query body names None = Err BadMethod
on_form query body names (Some f) = if are_known query then on_message (message_of f names.0 names.1 body) else Err BadParameter

abbrev pub on_place : List ℕ → List ℕ → List ℕ → Option Place → Result Message RequestError
on_place method query body None = Err NoSuchPath
on_place method query body (Some place) = on_form query body place.1 (form_of place.0 method)

abbrev pub on_target : List ℕ → List ℕ → List ℕ × List ℕ → Result Message RequestError
on_target method body parts = on_place method parts.1 body (place_of parts.0)

-- what a method, a target and a body ask for
unfoldable pub request_by : List ℕ → List ℕ → List ℕ → Result Message RequestError
request_by method target body = on_target method body (split_target (cut 63 target) target)
