-- What a request leaves that is given up for want of memory.
use Rattle.std.specs.Prelude.{ℕ, ℤ, List, Result, Ok, Err}
use Rattle.bulk_json.specs.declared.items.Item.{Item}
use Rattle.rest_request.specs.Message.{Message, bulk}
use Rattle.stream_catalog.specs.Ways.{Way}
use Rattle.tsds_service.specs.Bulk.{items_of, after_first}
use Rattle.tsds_service.specs.declared.causes.Cause.{Cause}
use Rattle.tsds_service.specs.Machine.{Machine}

-- the first k of a body's items are done, where it has items
abbrev pub with_first : Way → Machine → ℕ → Result (List Item) Cause → Machine
with_first way m k (Ok items) = record m { catalog = after_first way m.catalog k items }
with_first way m k (Err cause) = m

-- a bulk request is done up to an item, any other one not at all
abbrev pub done_up_to : Way → ℕ → Machine → Message → Machine
done_up_to way k m (bulk path body) = with_first way m k (items_of path body)
done_up_to way k m message = m

-- behind the first k items; the moment became the present, whatever was done
abbrev pub given_up : Way → Machine → Message → ℤ → ℕ → Machine
given_up way m message now k = done_up_to way k (record m { now = now }) message
