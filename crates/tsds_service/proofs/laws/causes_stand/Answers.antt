use Rattle.bulk_json.specs.Items.{bulk_of}
use Rattle.rest_request.specs.Table.{request_of}
use Rattle.series_id.specs.Keys.{keyed}
use Rattle.tsds_service.specs.CausedLaws.{same_with_causes, requests_caused, bulks_caused, keys_caused}
use Rattle.tsds_service.specs.Causes.{request_cause, bulk_cause, key_cause}
use Rattle.tsds_service.proofs.laws.causes_stand.Goals as goal

pub returns : goal.returns
returns c = record {
  requests = λ method target body. same_with_causes request_cause (request_of method target body) (requests_caused method target body);
  bulks = λ path body. same_with_causes bulk_cause (bulk_of path body) (bulks_caused path body);
  keys = λ schema cells. same_with_causes key_cause (keyed schema cells) (keys_caused schema cells);
}
