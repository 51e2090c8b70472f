-- The requests, a row for each, and the request that a message is.
use Rattle.std.specs.Prelude.{ℕ, Bool, true, false, ◌&&◌, List, [], ◌∷◌, codes, bytes_eq, get_or, if◌then◌else◌, Option, None, Some, Result, Ok, Err}
use Rattle.std.specs.Option.{option_map}
use Rattle.serde_json.specs.Data.{Data}
use Rattle.index_names.specs.Names.{is_stream_name, is_target_name, is_index_name}
use Rattle.rest_request.specs.Body.{object_of, optional_of, is_nothing}
use Rattle.rest_request.specs.Message.{Message, put_template, put_stream, get_stream, delete_stream, bulk, rollover, block, downsample, modify, delete_index, put_lifecycle, run_lifecycle, tasks, search_rows, count_rows, get_doc, flush}
use Rattle.rest_request.specs.Query.{are_known}
use Rattle.rest_request.specs.Target.{cut, split_target, split, is_id}
use Rattle.rest_request.specs.declared.request.RequestError.{RequestError}
use Rattle.rest_request.specs.declared.request.RequestError.TheVariants.{NoSuchPath, BadMethod, BadParameter, BadBody}

-- what a segment of a path is: a word, or a name of a kind
pub data Part : Type 0 where
  word : List ℕ → Part
  stream : Part
  index : Part
  target : Part
  id : Part

-- What a request takes as its body, and the message that it then is, by the first and the second name in its path: nothing,
-- for which blank and `{}` stand too; a JSON object; an object or nothing at all; or lines that nobody has read.
pub data Body : Type 0 where
  nothing : (List ℕ → List ℕ → Message) → Body
  object : (List ℕ → List ℕ → Data → Message) → Body
  object_if_any : (List ℕ → List ℕ → Option Data → Message) → Body
  lines : (List ℕ → List ℕ → List ℕ → Message) → Body

pub record Row : Type 0 where
  pub method : List ℕ
  pub path : List Part
  pub body : Body

abbrev pub row : List ℕ → List Part → Body → Row
row method path body = record { method = method; path = path; body = body }

abbrev pub GET : List ℕ
GET = codes "GET"

abbrev pub PUT : List ℕ
PUT = codes "PUT"

abbrev pub POST : List ℕ
POST = codes "POST"

abbrev pub DELETE : List ℕ
DELETE = codes "DELETE"

abbrev pub table : List Row
table =
    row PUT (word (codes "_index_template") ∷ stream ∷ []) (object (λ s _ body. put_template s body))
    ∷ row PUT (word (codes "_data_stream") ∷ stream ∷ []) (nothing (λ s _. put_stream s))
    ∷ row GET (word (codes "_data_stream") ∷ stream ∷ []) (nothing (λ s _. get_stream s))
    ∷ row DELETE (word (codes "_data_stream") ∷ stream ∷ []) (nothing (λ s _. delete_stream s))
    ∷ row POST (word (codes "_bulk") ∷ []) (lines (λ _ _ body. bulk None body))
    ∷ row POST (stream ∷ word (codes "_bulk") ∷ []) (lines (λ s _ body. bulk (Some s) body))
    ∷ row POST (stream ∷ word (codes "_rollover") ∷ []) (nothing (λ s _. rollover s))
    ∷ row PUT (index ∷ word (codes "_block") ∷ word (codes "write") ∷ []) (nothing (λ i _. block i))
    ∷ row POST (index ∷ word (codes "_downsample") ∷ target ∷ []) (object (λ i t body. downsample i t body))
    ∷ row POST (word (codes "_data_stream") ∷ word (codes "_modify") ∷ []) (object (λ _ _ body. modify body))
    ∷ row DELETE (index ∷ []) (nothing (λ i _. delete_index i))
    ∷ row PUT (word (codes "_data_stream") ∷ stream ∷ word (codes "_lifecycle") ∷ []) (object (λ s _ body. put_lifecycle s body))
    ∷ row POST (word (codes "_lifecycle") ∷ word (codes "_run") ∷ []) (nothing (λ _ _. run_lifecycle))
    ∷ row GET (word (codes "_tasks") ∷ []) (nothing (λ _ _. tasks))
    ∷ row GET (index ∷ word (codes "_search") ∷ []) (object_if_any (λ i _ body. search_rows i body))
    ∷ row POST (index ∷ word (codes "_search") ∷ []) (object_if_any (λ i _ body. search_rows i body))
    ∷ row GET (index ∷ word (codes "_count") ∷ []) (object_if_any (λ i _ body. count_rows i body))
    ∷ row POST (index ∷ word (codes "_count") ∷ []) (object_if_any (λ i _ body. count_rows i body))
    ∷ row GET (index ∷ word (codes "_doc") ∷ id ∷ []) (nothing (λ i d. get_doc i d))
    ∷ row POST (word (codes "_flush") ∷ []) (nothing (λ _ _. flush))
    ∷ []

-- ---- how the table is read

abbrev pub is_part : Part → List ℕ → Bool
is_part (word w) segment = bytes_eq segment w
is_part stream segment = is_stream_name segment
is_part index segment = is_index_name segment
is_part target segment = is_target_name segment
is_part id segment = is_id segment

abbrev pub all_parts : List Part → List (List ℕ) → Bool
all_parts [] segments = true
all_parts (p ∷ parts) [] = false
all_parts (p ∷ parts) (s ∷ segments) = is_part p s && all_parts parts segments

abbrev pub as_many : List Part → List (List ℕ) → Bool
as_many [] [] = true
as_many [] (s ∷ segments) = false
as_many (p ∷ parts) [] = false
as_many (p ∷ parts) (s ∷ segments) = as_many parts segments

-- there are as many segments as parts, and each is the part at its place
abbrev pub are_parts : List Part → List (List ℕ) → Bool
are_parts parts segments = as_many parts segments && all_parts parts segments

-- the names among the segments, from left to right
abbrev pub names_in : List Part → List (List ℕ) → List (List ℕ)
names_in [] segments = []
names_in (p ∷ parts) [] = []
names_in (word w ∷ parts) (s ∷ segments) = names_in parts segments
names_in (stream ∷ parts) (s ∷ segments) = s ∷ names_in parts segments
names_in (index ∷ parts) (s ∷ segments) = s ∷ names_in parts segments
names_in (target ∷ parts) (s ∷ segments) = s ∷ names_in parts segments
names_in (id ∷ parts) (s ∷ segments) = s ∷ names_in parts segments

abbrev pub first_name : List (List ℕ) → List ℕ
first_name names = get_or names 0 []

abbrev pub second_name : List (List ℕ) → List ℕ
second_name names = get_or names 1 []

-- the row's message, where the body is one that it takes
abbrev pub message_in : Body → List (List ℕ) → List ℕ → Option Message
message_in (nothing m) names body = if is_nothing body then Some (m (first_name names) (second_name names)) else None
message_in (object m) names body = option_map (m (first_name names) (second_name names)) (object_of body)
message_in (object_if_any m) names body = option_map (m (first_name names) (second_name names)) (optional_of body)
message_in (lines m) names body = Some (m (first_name names) (second_name names) body)

-- some row has the path
abbrev pub some_has_path : List (List ℕ) → List Row → Bool
some_has_path segments [] = false
some_has_path segments (r ∷ rows) = if are_parts r.path segments then true else some_has_path segments rows

-- the row that has the path and the method
abbrev pub row_for : List ℕ → List (List ℕ) → List Row → Option Row
row_for method segments [] = None
row_for method segments (r ∷ rows) = if are_parts r.path segments && bytes_eq method r.method then Some r else row_for method segments rows

abbrev pub on_message : Option Message → Result Message RequestError
on_message None = Err BadBody
on_message (Some message) = Ok message

abbrev pub on_row : List ℕ → List ℕ → List (List ℕ) → Option Row → Result Message RequestError
on_row query body segments None = Err BadMethod
on_row query body segments (Some r) =
    if are_known query then on_message (message_in r.body (names_in r.path segments) body) else Err BadParameter

abbrev pub on_segments : List ℕ → List ℕ → List ℕ → List (List ℕ) → Result Message RequestError
on_segments method query body segments =
    if some_has_path segments table then on_row query body segments (row_for method segments table) else Err NoSuchPath

-- a path begins with a slash, and its segments lie between slashes
abbrev pub on_pieces : List ℕ → List ℕ → List ℕ → List (List ℕ) → Result Message RequestError
on_pieces method query body ([] ∷ segments) = on_segments method query body segments
on_pieces method query body other = Err NoSuchPath

abbrev pub on_parts : List ℕ → List ℕ → List ℕ × List ℕ → Result Message RequestError
on_parts method body parts = on_pieces method parts.1 body (split 47 parts.0)

-- what a method, a target and a body ask for, or the first refusal in the order path, method, parameter, body
unfoldable pub request_of : List ℕ → List ℕ → List ℕ → Result Message RequestError
request_of method uri body = on_parts method body (split_target (cut 63 uri) uri)
