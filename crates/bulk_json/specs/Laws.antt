-- What holds of items and faults ahead, for the public laws.
use Rattle.std.specs.Prelude.{◌≡◌, List, Result}
use Rattle.bulk_json.specs.Items.{onto}
use Rattle.bulk_json.specs.Lent.{fault_in}
use Rattle.bulk_json.specs.declared.errors.BulkError.{BulkError}
use Rattle.bulk_json.specs.declared.items.Item.{Item}

-- items before others bring no fault, and take none away
abbrev pub FaultsStayAhead : Type 0
FaultsStayAhead = (items : List Item) (ahead : Result (List Item) BulkError) → fault_in (onto items ahead) ≡ fault_in ahead
