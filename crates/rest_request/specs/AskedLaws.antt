-- Each request that is read keeps what `IsAsked` says.
use Rattle.std.proofs.Common.{◌≡◌, ◌≤◌, ℕ, List, [], length, Bool, true, false, ◌&&◌, ◌||◌, cond, nat_eq, bytes_eq, Option, None, Some, option_map, option_and_then, Result, Ok, Err, refl, sym, ◌∙◌, subst}
use Rattle.std.specs.Prelude.{codes, IsTrue}
use Rattle.edge_face.specs.Limits.{body_limit}
use Rattle.serde_json.specs.Data.{Data}
use Rattle.json_walk.specs.Shapes.{is_object}
use Rattle.json_walk.specs.Tree.{tree_of}
use Rattle.index_names.specs.Names.{is_stream_name, is_target_name, is_index_name}
use Rattle.rest_request.specs.Asked.{IsStream, IsIndex, IsBody, IsBodyIfAny, IsAsked}
use Rattle.rest_request.specs.Body.{tree_if_object, object_of, optional_of, is_nothing}
use Rattle.rest_request.specs.Form.{only, form_of}
use Rattle.rest_request.specs.Message.{Message}
use Rattle.rest_request.specs.Steps.{bare_of, full_of, optional_of_form, message_of, on_form, on_place, on_target, request_by}
use Rattle.rest_request.specs.Table.{request_of, on_message}
use Rattle.rest_request.specs.TableLaws.{by_table}
use Rattle.rest_request.specs.Target.{cut, split_target, is_id}
use Rattle.rest_request.specs.Path as path
use Rattle.rest_request.specs.Path.{Place, place_of}
use Rattle.rest_request.specs.Query.{are_known}
use Rattle.rest_request.specs.declared.path.Shape.{Shape}
use Rattle.rest_request.specs.declared.path.Shape.TheVariants as shape
use Rattle.rest_request.specs.declared.form.Bare.{Bare}
use Rattle.rest_request.specs.declared.form.Bare.TheVariants as bare
use Rattle.rest_request.specs.declared.form.Full.{Full}
use Rattle.rest_request.specs.declared.form.Full.TheVariants as full
use Rattle.rest_request.specs.declared.form.Optional.{Optional}
use Rattle.rest_request.specs.declared.form.Optional.TheVariants as optional
use Rattle.rest_request.specs.declared.form.Form.{Form}
use Rattle.rest_request.specs.declared.form.Form.TheVariants as form
use Rattle.rest_request.specs.declared.request.RequestError.{RequestError}
use Rattle.rest_request.specs.declared.request.RequestError.TheVariants.{BadParameter}

-- ---- what holds of an answer, where there is one

abbrev Of : {A : Type 0} → (A → Type 0) → Option A → Type 0
Of P None = Unit {0}
Of P (Some a) = P a

either : {A : Type 0} (P : A → Type 0) (test : Bool) (x y : Option A) → Of P x → Of P y → Of P (cond test x y)
either P true x y first second = first
either P false x y first second = second

where_true : {A : Type 0} (P : A → Type 0) (test : Bool) (a : A) → (IsTrue test → P a) → Of P (cond test (Some a) None)
where_true P true a is = is refl
where_true P false a is = tt

both_parts : (a b : Bool) → IsTrue (a && b) → IsTrue a × IsTrue b
both_parts true true is = (refl, refl)
both_parts true false is = absurd cc
both_parts false b is = absurd cc

-- ---- the names of a path

-- names as the shape has them
abbrev HasNames : Shape → List ℕ → List ℕ → Type 0
HasNames shape.Template a b = IsStream a
HasNames shape.Stream a b = IsStream a
HasNames shape.Modify a b = Unit {0}
HasNames shape.Lifecycle a b = IsStream a
HasNames shape.Bulk a b = Unit {0}
HasNames shape.StreamBulk a b = IsStream a
HasNames shape.Rollover a b = IsStream a
HasNames shape.Block a b = IsIndex a
HasNames shape.Downsample a b = IsIndex a × IsTrue (is_target_name b)
HasNames shape.Index a b = IsIndex a
HasNames shape.RunLifecycle a b = Unit {0}
HasNames shape.Tasks a b = Unit {0}
HasNames shape.Search a b = IsIndex a
HasNames shape.Count a b = IsIndex a
HasNames shape.Document a b = IsIndex a × IsTrue (is_id b)
HasNames shape.Flush a b = Unit {0}

abbrev IsPlace : Place → Type 0
IsPlace place = HasNames place.0 place.1.0 place.1.1

one_so : (a : List ℕ) → Of IsPlace (path.one_segment a)
one_so a =
    either IsPlace (bytes_eq a (codes "_bulk")) _ _ tt (either IsPlace (bytes_eq a (codes "_tasks")) _ _ tt (either IsPlace (bytes_eq a (codes "_flush")) _ _ tt
    (where_true IsPlace (is_index_name a) (shape.Index, (a, [])) (λ is. is))))

stream_so : (b : List ℕ) → Of IsPlace (path.of_stream b)
stream_so b = either IsPlace (bytes_eq b (codes "_modify")) _ _ tt (where_true IsPlace (is_stream_name b) (shape.Stream, (b, [])) (λ is. is))

two_so : (a b : List ℕ) → Of IsPlace (path.two_segments a b)
two_so a b =
    either IsPlace (bytes_eq a (codes "_index_template")) _ _ (where_true IsPlace (is_stream_name b) (shape.Template, (b, [])) (λ is. is))
    (either IsPlace (bytes_eq a (codes "_data_stream")) _ _ (stream_so b)
    (either IsPlace (bytes_eq a (codes "_lifecycle")) _ _ (either IsPlace (bytes_eq b (codes "_run")) _ _ tt tt)
    (either IsPlace (bytes_eq b (codes "_bulk")) _ _ (where_true IsPlace (is_stream_name a) (shape.StreamBulk, (a, [])) (λ is. is))
    (either IsPlace (bytes_eq b (codes "_rollover")) _ _ (where_true IsPlace (is_stream_name a) (shape.Rollover, (a, [])) (λ is. is))
    (either IsPlace (bytes_eq b (codes "_search")) _ _ (where_true IsPlace (is_index_name a) (shape.Search, (a, [])) (λ is. is))
    (either IsPlace (bytes_eq b (codes "_count")) _ _ (where_true IsPlace (is_index_name a) (shape.Count, (a, [])) (λ is. is)) tt))))))

three_so : (a b c : List ℕ) → Of IsPlace (path.three_segments a b c)
three_so a b c =
    either IsPlace (bytes_eq a (codes "_data_stream")) _ _ (either IsPlace (bytes_eq c (codes "_lifecycle")) _ _ (where_true IsPlace (is_stream_name b) (shape.Lifecycle, (b, [])) (λ is. is)) tt)
    (either IsPlace (bytes_eq b (codes "_block")) _ _ (either IsPlace (bytes_eq c (codes "write")) _ _ (where_true IsPlace (is_index_name a) (shape.Block, (a, [])) (λ is. is)) tt)
    (either IsPlace (bytes_eq b (codes "_downsample")) _ _ (where_true IsPlace (is_index_name a && is_target_name c) (shape.Downsample, (a, c)) (both_parts (is_index_name a) (is_target_name c)))
    (either IsPlace (bytes_eq b (codes "_doc")) _ _ (where_true IsPlace (is_index_name a && is_id c) (shape.Document, (a, c)) (both_parts (is_index_name a) (is_id c))) tt)))

more_so : (a : List ℕ) (parts : Option (List ℕ × List ℕ)) (others : List ℕ) → Of IsPlace (path.more_segments a parts others)
more_so a None others = two_so a others
more_so a (Some parts) others = three_so a parts.0 parts.1

segments_so : (parts : Option (List ℕ × List ℕ)) (all : List ℕ) → Of IsPlace (path.segments parts all)
segments_so None all = one_so all
segments_so (Some parts) all = more_so parts.0 (cut 47 parts.1) parts.1

root_so : (parts : Option (List ℕ × List ℕ)) → Of IsPlace (path.behind_root parts)
root_so None = tt
root_so (Some parts) = either IsPlace (nat_eq (length parts.0) 0) _ _ (segments_so (cut 47 parts.1) parts.1) tt

place_so : (p : List ℕ) → Of IsPlace (place_of p)
unfolding place_of
place_so p = root_so (cut 47 p)

-- ---- the names of a form

abbrev HasForm : List ℕ → List ℕ → Form → Type 0
HasForm a b (form.Bare bare.PutStream) = IsStream a
HasForm a b (form.Bare bare.GetStream) = IsStream a
HasForm a b (form.Bare bare.DeleteStream) = IsStream a
HasForm a b (form.Bare bare.Rollover) = IsStream a
HasForm a b (form.Bare bare.Block) = IsIndex a
HasForm a b (form.Bare bare.DeleteIndex) = IsIndex a
HasForm a b (form.Bare bare.RunLifecycle) = Unit {0}
HasForm a b (form.Bare bare.Tasks) = Unit {0}
HasForm a b (form.Bare bare.GetDoc) = IsIndex a × IsTrue (is_id b)
HasForm a b (form.Bare bare.Flush) = Unit {0}
HasForm a b (form.Full full.PutTemplate) = IsStream a
HasForm a b (form.Full full.Downsample) = IsIndex a × IsTrue (is_target_name b)
HasForm a b (form.Full full.Modify) = Unit {0}
HasForm a b (form.Full full.PutLifecycle) = IsStream a
HasForm a b (form.Optional o) = IsIndex a
HasForm a b form.Bulk = Unit {0}
HasForm a b form.StreamBulk = IsStream a

only_so : (a b method taken : List ℕ) (f : Form) → HasForm a b f → Of (HasForm a b) (only method taken f)
only_so a b method taken f is = where_true (HasForm a b) (bytes_eq method taken) f (λ t. is)

form_so : (s : Shape) (a b method : List ℕ) → HasNames s a b → Of (HasForm a b) (form_of s method)
form_so shape.Template a b m is = only_so a b m (codes "PUT") (form.Full full.PutTemplate) is
form_so shape.Stream a b m is =
    either (HasForm a b) (bytes_eq m (codes "PUT")) _ _ is (either (HasForm a b) (bytes_eq m (codes "GET")) _ _ is (either (HasForm a b) (bytes_eq m (codes "DELETE")) (Some (form.Bare bare.DeleteStream)) None is tt))
form_so shape.Modify a b m is = only_so a b m (codes "POST") (form.Full full.Modify) is
form_so shape.Lifecycle a b m is = only_so a b m (codes "PUT") (form.Full full.PutLifecycle) is
form_so shape.Bulk a b m is = only_so a b m (codes "POST") form.Bulk is
form_so shape.StreamBulk a b m is = only_so a b m (codes "POST") form.StreamBulk is
form_so shape.Rollover a b m is = only_so a b m (codes "POST") (form.Bare bare.Rollover) is
form_so shape.Block a b m is = only_so a b m (codes "PUT") (form.Bare bare.Block) is
form_so shape.Downsample a b m is = only_so a b m (codes "POST") (form.Full full.Downsample) is
form_so shape.Index a b m is = only_so a b m (codes "DELETE") (form.Bare bare.DeleteIndex) is
form_so shape.RunLifecycle a b m is = only_so a b m (codes "POST") (form.Bare bare.RunLifecycle) is
form_so shape.Tasks a b m is = only_so a b m (codes "GET") (form.Bare bare.Tasks) is
form_so shape.Search a b m is = where_true (HasForm a b) (bytes_eq m (codes "GET") || bytes_eq m (codes "POST")) (form.Optional optional.Search) (λ t. is)
form_so shape.Count a b m is = where_true (HasForm a b) (bytes_eq m (codes "GET") || bytes_eq m (codes "POST")) (form.Optional optional.Count) (λ t. is)
form_so shape.Document a b m is = only_so a b m (codes "GET") (form.Bare bare.GetDoc) is
form_so shape.Flush a b m is = only_so a b m (codes "POST") (form.Bare bare.Flush) is

-- ---- the message of a form

object_so : (body : List ℕ) → Of IsBody (object_of body)
unfolding object_of
object_so body = go (tree_of body)
  where
    one : (d : Data) → Of IsBody (tree_if_object d)
    one d = where_true IsBody (is_object d) d (λ is. is)

    go : (o : Option Data) → Of IsBody (option_and_then tree_if_object o)
    go None = tt
    go (Some d) = one d

mapped : {A B : Type 0} (P : A → Type 0) (Q : B → Type 0) (f : A → B) → ((a : A) → P a → Q (f a)) → (o : Option A) → Of P o → Of Q (option_map f o)
mapped P Q f so None is = tt
mapped P Q f so (Some a) is = so a is

optional_so : (body : List ℕ) → Of IsBodyIfAny (optional_of body)
optional_so body = either IsBodyIfAny (nat_eq (length body) 0) (Some None) _ tt (mapped IsBody IsBodyIfAny (λ d. Some d) (λ d is. is) (object_of body) (object_so body))

bare_so : (f : Bare) (a b : List ℕ) → HasForm a b (form.Bare f) → IsAsked (bare_of f a b)
bare_so bare.PutStream a b is = is
bare_so bare.GetStream a b is = is
bare_so bare.DeleteStream a b is = is
bare_so bare.Rollover a b is = is
bare_so bare.Block a b is = is
bare_so bare.DeleteIndex a b is = is
bare_so bare.RunLifecycle a b is = is
bare_so bare.Tasks a b is = is
bare_so bare.GetDoc a b is = is
bare_so bare.Flush a b is = is

full_so : (f : Full) (a b : List ℕ) → HasForm a b (form.Full f) → (d : Data) → IsBody d → IsAsked (full_of f a b d)
full_so full.PutTemplate a b is d body = (is, body)
full_so full.Downsample a b is d body = (is.0, (is.1, body))
full_so full.Modify a b is d body = body
full_so full.PutLifecycle a b is d body = (is, body)

with_optional_so : (f : Optional) (a : List ℕ) → IsIndex a → (o : Option Data) → IsBodyIfAny o → IsAsked (optional_of_form f a o)
with_optional_so optional.Search a is o body = (is, body)
with_optional_so optional.Count a is o body = (is, body)

message_so : (f : Form) (a b body : List ℕ) → length body ≤ body_limit → HasForm a b f → Of IsAsked (message_of f a b body)
message_so (form.Bare f) a b body short is = where_true IsAsked (is_nothing body) (bare_of f a b) (λ t. bare_so f a b is)
message_so (form.Full f) a b body short is = mapped IsBody IsAsked (full_of f a b) (full_so f a b is) (object_of body) (object_so body)
message_so (form.Optional f) a b body short is = mapped IsBodyIfAny IsAsked (optional_of_form f a) (with_optional_so f a is) (optional_of body) (optional_so body)
message_so form.Bulk a b body short is = (tt, short)
message_so form.StreamBulk a b body short is = (is, short)

-- ---- the whole

abbrev OfResult : Result Message RequestError → Type 0
OfResult (Ok r) = IsAsked r
OfResult (Err e) = Unit {0}

on_body_so : (o : Option Message) → Of IsAsked o → OfResult (on_message o)
on_body_so None is = tt
on_body_so (Some r) is = is

on_form_so : (query body : List ℕ) (names : List ℕ × List ℕ) (o : Option Form) → length body ≤ body_limit → Of (HasForm names.0 names.1) o → OfResult (on_form query body names o)
on_form_so query body names None short is = tt
on_form_so query body names (Some f) short is = go (are_known query)
  where
    go : (v : Bool) → OfResult (cond v (on_message (message_of f names.0 names.1 body)) (Err BadParameter))
    go true = on_body_so (message_of f names.0 names.1 body) (message_so f names.0 names.1 body short is)
    go false = tt

on_place_so : (method query body : List ℕ) (o : Option Place) → length body ≤ body_limit → Of IsPlace o → OfResult (on_place method query body o)
on_place_so method query body None short is = tt
on_place_so method query body (Some place) short is = on_form_so query body place.1 (form_of place.0 method) short (form_so place.0 place.1.0 place.1.1 method is)

request_so : (method target body : List ℕ) → length body ≤ body_limit → OfResult (request_by method target body)
unfolding request_by
request_so method target body short = go (split_target (cut 63 target) target)
  where
    go : (parts : List ℕ × List ℕ) → OfResult (on_target method body parts)
    go parts = on_place_so method parts.1 body (place_of parts.0) short (place_so parts.0)

-- each request that is read of a body within its length
pub asked_so : (method target body : List ℕ) (r : Message) → request_of method target body ≡ Ok r → length body ≤ body_limit → IsAsked r
asked_so method target body r is short = subst OfResult (sym (by_table method target body) ∙ is) (request_so method target body short)
