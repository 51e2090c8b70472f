-- How the code goes through the table of requests: then the form, by shape and method. For private clauses; `TableLaws` says
-- that it comes to the same.
use Rattle.std.specs.Prelude.{ℕ, ◌||◌, List, codes, bytes_eq, if◌then◌else◌, Option, None, Some}
use Rattle.rest_request.specs.declared.path.Shape.{Shape}
use Rattle.rest_request.specs.declared.path.Shape.TheVariants as shape
use Rattle.rest_request.specs.declared.form.Bare.TheVariants as bare
use Rattle.rest_request.specs.declared.form.Full.TheVariants as full
use Rattle.rest_request.specs.declared.form.Optional.TheVariants as optional
use Rattle.rest_request.specs.declared.form.Form.{Form}
use Rattle.rest_request.specs.declared.form.Form.TheVariants as form

abbrev pub only : List ℕ → List ℕ → Form → Option Form
only method taken f = if bytes_eq method taken then Some f else None

abbrev pub get_or_post : List ℕ → Form → Option Form
get_or_post method f = if bytes_eq method (codes "GET") || bytes_eq method (codes "POST") then Some f else None

abbrev pub of_stream : List ℕ → Option Form
of_stream method =
    if bytes_eq method (codes "PUT") then Some (form.Bare bare.PutStream)
    else (if bytes_eq method (codes "GET") then Some (form.Bare bare.GetStream)
    else (if bytes_eq method (codes "DELETE") then Some (form.Bare bare.DeleteStream)
    else None))

-- the form that a method has on a shape
abbrev pub form_of : Shape → List ℕ → Option Form
form_of shape.Template method = only method (codes "PUT") (form.Full full.PutTemplate)
form_of shape.Stream method = of_stream method
form_of shape.Modify method = only method (codes "POST") (form.Full full.Modify)
form_of shape.Lifecycle method = only method (codes "PUT") (form.Full full.PutLifecycle)
form_of shape.Bulk method = only method (codes "POST") form.Bulk
form_of shape.StreamBulk method = only method (codes "POST") form.StreamBulk
form_of shape.Rollover method = only method (codes "POST") (form.Bare bare.Rollover)
form_of shape.Block method = only method (codes "PUT") (form.Bare bare.Block)
form_of shape.Downsample method = only method (codes "POST") (form.Full full.Downsample)
form_of shape.Index method = only method (codes "DELETE") (form.Bare bare.DeleteIndex)
form_of shape.RunLifecycle method = only method (codes "POST") (form.Bare bare.RunLifecycle)
form_of shape.Tasks method = only method (codes "GET") (form.Bare bare.Tasks)
form_of shape.Search method = get_or_post method (form.Optional optional.Search)
form_of shape.Count method = get_or_post method (form.Optional optional.Count)
form_of shape.Document method = only method (codes "GET") (form.Bare bare.GetDoc)
form_of shape.Flush method = only method (codes "POST") (form.Bare bare.Flush)
