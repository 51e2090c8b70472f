-- The one reply of each cause. All texts of refusals have their home here.
use Rattle.std.specs.Prelude.{ℕ, List, ◌++◌, codes, Option, Some, None}
use Rattle.std.specs.Fmt.{decimal}
use Rattle.bulk_json.specs.declared.errors.BulkError.{BulkError}
use Rattle.bulk_json.specs.declared.errors.BulkError.TheVariants as of_bulk
use Rattle.reply_json.specs.Trees.{error_tree}
use Rattle.rest_request.specs.declared.request.RequestError.{RequestError}
use Rattle.rest_request.specs.declared.request.RequestError.TheVariants as of_request
use Rattle.series_id.specs.declared.keys.KeyError.{KeyError}
use Rattle.series_id.specs.declared.keys.KeyError.TheVariants as of_key
use Rattle.stream_catalog.specs.declared.answers.What.{What}
use Rattle.stream_catalog.specs.declared.answers.What.TheVariants.{Templates, Streams, Indices, Generations}
use Rattle.synthetic_source.specs.declared.errors.DocKind.{DocKind}
use Rattle.synthetic_source.specs.declared.errors.DocKind.TheVariants.{NoTime, BadTime, Unmapped, NotLeaf, WrongType, ManyValues, BadAggregate}
use Rattle.time_text.specs.Printed.{instant_text}
use Rattle.ts_mapping.specs.declared.kinds.MapKind.{MapKind}
use Rattle.ts_mapping.specs.declared.kinds.MapKind.TheVariants.{Shape, BadShards, BadDynamic, UnknownType, TooManyFields, PathClash, BadTimestamp, BadRole, NoDimension, BadRouting}
use Rattle.tsds_service.specs.Limits.{most_buckets, last_hit}
use Rattle.tsds_service.specs.declared.causes.Cause.{Cause}
use Rattle.tsds_service.specs.declared.causes.Cause.TheVariants as cause
use Rattle.tsds_service.specs.declared.causes.ItemCause.{ItemCause}
use Rattle.tsds_service.specs.declared.causes.ItemCause.TheVariants.{OnlyCreate, NoStream, NoObject, WrongTime, Outside, Blocked, BadDocument, NoRouting, LongKey, Conflict, Full}
use Rattle.tsds_service.specs.declared.reply.Reply.{Reply}

-- ---- texts

-- a status, a type and a reason
pub record Wrong : Type 0 where
  pub status : ℕ
  pub kind : List ℕ
  pub reason : List ℕ

abbrev pub wrong : ℕ → List ℕ → List ℕ → Wrong
wrong status kind reason = record { status = status; kind = kind; reason = reason }

abbrev pub bad_argument : List ℕ → Wrong
bad_argument reason = wrong 400 (codes "illegal_argument_exception") reason

-- words, and a text in brackets behind them
abbrev pub bracketed : List ℕ → List ℕ → List ℕ
bracketed front name = front ++ codes " [" ++ name ++ codes "]"

-- one name, words, and another
abbrev pub related : List ℕ → List ℕ → List ℕ → List ℕ
related first words second = codes "[" ++ first ++ codes "] " ++ bracketed words second

abbrev pub what_text : What → List ℕ
what_text Templates = codes "templates"
what_text Streams = codes "streams"
what_text Indices = codes "indices"
what_text Generations = codes "generations"

abbrev pub map_kind_text : MapKind → List ℕ
map_kind_text Shape = codes "Shape"
map_kind_text BadShards = codes "BadShards"
map_kind_text BadDynamic = codes "BadDynamic"
map_kind_text UnknownType = codes "UnknownType"
map_kind_text TooManyFields = codes "TooManyFields"
map_kind_text PathClash = codes "PathClash"
map_kind_text BadTimestamp = codes "BadTimestamp"
map_kind_text BadRole = codes "BadRole"
map_kind_text NoDimension = codes "NoDimension"
map_kind_text BadRouting = codes "BadRouting"

abbrev pub doc_kind_text : DocKind → List ℕ
doc_kind_text NoTime = codes "NoTime"
doc_kind_text BadTime = codes "BadTime"
doc_kind_text Unmapped = codes "Unmapped"
doc_kind_text NotLeaf = codes "NotLeaf"
doc_kind_text WrongType = codes "WrongType"
doc_kind_text ManyValues = codes "ManyValues"
doc_kind_text BadAggregate = codes "BadAggregate"

-- a path that nobody maps is a cause of its own where mappings are strict
abbrev pub doc_type : DocKind → List ℕ
doc_type NoTime = codes "document_parsing_exception"
doc_type BadTime = codes "document_parsing_exception"
doc_type Unmapped = codes "strict_dynamic_mapping_exception"
doc_type NotLeaf = codes "document_parsing_exception"
doc_type WrongType = codes "document_parsing_exception"
doc_type ManyValues = codes "document_parsing_exception"
doc_type BadAggregate = codes "document_parsing_exception"

abbrev pub said : Cause → Wrong
said cause.NoSuchPath = bad_argument (codes "no handler found")
said cause.BadMethod = wrong 405 (codes "illegal_argument_exception") (codes "method not allowed")
said cause.BadParameter = bad_argument (codes "unrecognized parameter")
said cause.BadBody = wrong 400 (codes "parse_exception") (codes "bad body")
said cause.BadMoment = bad_argument (codes "bad moment")
said (cause.NoSuchName name) = wrong 404 (codes "index_not_found_exception") (bracketed (codes "no such index") name)
said (cause.NameTaken name) = wrong 400 (codes "resource_already_exists_exception") (codes "[" ++ name ++ codes "] already exists")
said (cause.Reserved name) = bad_argument (bracketed (codes "name") name ++ codes " is reserved")
said (cause.NoTemplate stream) = bad_argument (bracketed (codes "no matching index template for") stream)
said (cause.IsWriteIndex index stream) = bad_argument (related index (codes "is the write index of") stream)
said (cause.NotBlocked index) = bad_argument (codes "[" ++ index ++ codes "] must be blocked for writes")
said (cause.NotGreater asked had) = bad_argument (bracketed (bracketed (codes "interval") asked ++ codes " must be greater than") had)
said (cause.NotMultiple asked had) = bad_argument (bracketed (bracketed (codes "interval") asked ++ codes " must be a multiple of") had)
said (cause.NotMember index stream) = bad_argument (related index (codes "is not a backing index of") stream)
said (cause.IsMember index stream) = bad_argument (related index (codes "is a backing index of") stream)
said (cause.OtherMapping index stream) = bad_argument (related index (codes "has another mapping than") stream)
said (cause.BadWindow index stream) = bad_argument (bracketed (bracketed (codes "window of") index ++ codes " does not fit") stream)
said (cause.ChangedField path index) = bad_argument (bracketed (bracketed (codes "field") path ++ codes " is mapped in another way in") index)
said (cause.TimeOver index) = bad_argument (bracketed (codes "no time is left after") index)
said (cause.Limit what) = bad_argument (bracketed (codes "limit of") (what_text what) ++ codes " reached")
said cause.NoData = bad_argument (codes "no data path")
said (cause.BadTemplate kind path) = wrong 400 (codes "mapper_parsing_exception") (bracketed (map_kind_text kind) path)
said (cause.BadAction line) = bad_argument (bracketed (codes "malformed action line") (decimal line))
said (cause.MissingSource line) = bad_argument (bracketed (codes "missing source line after line") (decimal line))
said cause.NoItems = bad_argument (codes "no items")
said cause.BadQuery = wrong 400 (codes "parse_exception") (codes "bad query")
said (cause.WrongValue path) = wrong 400 (codes "query_shard_exception") (bracketed (codes "failed to read a value for") path)
said cause.BadAggregation = wrong 400 (codes "parse_exception") (codes "bad aggregation")
said (cause.WrongField path kind) = bad_argument (bracketed (bracketed (codes "field") path ++ codes " is not supported for aggregation") kind)
said (cause.NoIncrease index) = bad_argument (bracketed (codes "index") index ++ codes " keeps no increase")
said cause.TooManyBuckets = wrong 400 (codes "too_many_buckets_exception") (bracketed (codes "more than") (decimal most_buckets) ++ codes " buckets")
said (cause.WindowTooLarge asked) = bad_argument (bracketed (bracketed (codes "from + size must be at most") (decimal last_hit) ++ codes " but was") (decimal asked))
said (cause.BadSortField path) = bad_argument (bracketed (codes "cannot sort on") path)
said cause.BadSort = wrong 400 (codes "parse_exception") (codes "bad sort")
said cause.BadHead = bad_argument (codes "bad head")
said cause.NeedsLength = wrong 411 (codes "illegal_argument_exception") (codes "length required")
said cause.BodyTooLarge = wrong 413 (codes "illegal_argument_exception") (codes "body too large")

abbrev pub item_said : ItemCause → Wrong
item_said OnlyCreate = bad_argument (codes "only create is allowed in data streams")
item_said (NoStream name) = wrong 404 (codes "index_not_found_exception") (bracketed (codes "no such index") name)
item_said NoObject = wrong 400 (codes "document_parsing_exception") (codes "source is not a JSON object")
item_said (WrongTime kind) = wrong 400 (codes "document_parsing_exception") (bracketed (doc_kind_text kind) (codes "@timestamp"))
item_said (Outside time) = bad_argument (bracketed (codes "the document timestamp") (instant_text time) ++ codes " is outside of all windows")
item_said (Blocked index) = wrong 403 (codes "cluster_block_exception") (bracketed (codes "index") index ++ codes " blocked")
item_said (BadDocument kind path) = wrong 400 (doc_type kind) (bracketed (doc_kind_text kind) path)
item_said NoRouting = bad_argument (codes "no routing field")
item_said (LongKey bytes) = bad_argument (bracketed (codes "series key of") (decimal bytes) ++ codes " bytes")
item_said (Conflict id) = wrong 409 (codes "version_conflict_engine_exception") (codes "[" ++ id ++ codes "]: version conflict, document already exists")
item_said (Full index) = wrong 429 (codes "es_rejected_execution_exception") (bracketed (codes "index") index ++ codes " is full")

-- ---- replies

abbrev pub reply_of : Wrong → Reply
reply_of w = record { status = w.status; body = error_tree w.status w.kind w.reason }

-- the reply of a cause
abbrev pub refused : Cause → Reply
refused c = reply_of (said c)

-- ---- causes of what other layers refuse; want of memory has none, since nothing is replied then

abbrev pub request_cause : RequestError → Option Cause
request_cause of_request.NoSuchPath = Some cause.NoSuchPath
request_cause of_request.BadMethod = Some cause.BadMethod
request_cause of_request.BadParameter = Some cause.BadParameter
request_cause of_request.BadBody = Some cause.BadBody
request_cause of_request.NoMemory = None

abbrev pub bulk_cause : BulkError → Option Cause
bulk_cause (of_bulk.BadAction line) = Some (cause.BadAction line)
bulk_cause (of_bulk.MissingSource line) = Some (cause.MissingSource line)
bulk_cause of_bulk.Empty = Some cause.NoItems
bulk_cause of_bulk.NoMemory = None

abbrev pub key_cause : KeyError → Option ItemCause
key_cause of_key.NoRouting = Some NoRouting
key_cause (of_key.KeyTooLong bytes) = Some (LongKey bytes)
key_cause of_key.NoMemory = None
