-- How the code goes through the table of requests: first the shape of a path, by its segments from left to right. For private
-- clauses; `TableLaws` says that it comes to the same.
use Rattle.std.specs.Prelude.{ℕ, ◌&&◌, nat_eq, List, [], length, codes, bytes_eq, if◌then◌else◌, Option, None, Some}
use Rattle.index_names.specs.Names.{is_stream_name, is_target_name, is_index_name}
use Rattle.rest_request.specs.Target.{cut, is_id}
use Rattle.rest_request.specs.declared.path.Shape.{Shape}
use Rattle.rest_request.specs.declared.path.Shape.TheVariants.{Template, Stream, Modify, Lifecycle, Bulk, StreamBulk, Rollover, Block, Downsample, Index, RunLifecycle, Tasks, Search, Count, Document, Flush}

-- a shape, and the names in the path from left to right; empty where the shape has fewer
abbrev pub Place : Type 0
Place = Shape × (List ℕ × List ℕ)

abbrev pub at : Shape → List ℕ → List ℕ → Option Place
at shape first second = Some (shape, (first, second))

abbrev pub under_stream : Shape → List ℕ → Option Place
under_stream shape name = if is_stream_name name then at shape name [] else None

abbrev pub under_index : Shape → List ℕ → Option Place
under_index shape name = if is_index_name name then at shape name [] else None

-- /a
abbrev pub one_segment : List ℕ → Option Place
one_segment a =
    if bytes_eq a (codes "_bulk") then at Bulk [] []
    else (if bytes_eq a (codes "_tasks") then at Tasks [] []
    else (if bytes_eq a (codes "_flush") then at Flush [] []
    else under_index Index a))

abbrev pub of_stream : List ℕ → Option Place
of_stream b = if bytes_eq b (codes "_modify") then at Modify [] [] else under_stream Stream b

abbrev pub of_lifecycle : List ℕ → Option Place
of_lifecycle b = if bytes_eq b (codes "_run") then at RunLifecycle [] [] else None

-- /a/b
abbrev pub two_segments : List ℕ → List ℕ → Option Place
two_segments a b =
    if bytes_eq a (codes "_index_template") then under_stream Template b
    else (if bytes_eq a (codes "_data_stream") then of_stream b
    else (if bytes_eq a (codes "_lifecycle") then of_lifecycle b
    else (if bytes_eq b (codes "_bulk") then under_stream StreamBulk a
    else (if bytes_eq b (codes "_rollover") then under_stream Rollover a
    else (if bytes_eq b (codes "_search") then under_index Search a
    else (if bytes_eq b (codes "_count") then under_index Count a
    else None))))))

abbrev pub stream_lifecycle : List ℕ → List ℕ → Option Place
stream_lifecycle b c = if bytes_eq c (codes "_lifecycle") then under_stream Lifecycle b else None

abbrev pub index_block : List ℕ → List ℕ → Option Place
index_block a c = if bytes_eq c (codes "write") then under_index Block a else None

abbrev pub downsample : List ℕ → List ℕ → Option Place
downsample a c = if is_index_name a && is_target_name c then at Downsample a c else None

abbrev pub document : List ℕ → List ℕ → Option Place
document a c = if is_index_name a && is_id c then at Document a c else None

-- /a/b/c, where c is all that follows: no word or name has a slash
abbrev pub three_segments : List ℕ → List ℕ → List ℕ → Option Place
three_segments a b c =
    if bytes_eq a (codes "_data_stream") then stream_lifecycle b c
    else (if bytes_eq b (codes "_block") then index_block a c
    else (if bytes_eq b (codes "_downsample") then downsample a c
    else (if bytes_eq b (codes "_doc") then document a c
    else None)))

abbrev pub more_segments : List ℕ → Option (List ℕ × List ℕ) → List ℕ → Option Place
more_segments a None others = two_segments a others
more_segments a (Some parts) others = three_segments a parts.0 parts.1

abbrev pub segments : Option (List ℕ × List ℕ) → List ℕ → Option Place
segments None all = one_segment all
segments (Some parts) all = more_segments parts.0 (cut 47 parts.1) parts.1

abbrev pub behind_root : Option (List ℕ × List ℕ) → Option Place
behind_root None = None
behind_root (Some parts) = if nat_eq (length parts.0) 0 then segments (cut 47 parts.1) parts.1 else None

-- the shape of a path that begins with a slash, and the names in it; nothing where it has none
unfoldable pub place_of : List ℕ → Option Place
place_of path = behind_root (cut 47 path)
