use Rattle.hits_page.proofs.AnyOrder.{one_page}
use Rattle.hits_page.proofs.laws.pages_in_any_order.Goals as goal

pub returns : goal.returns
returns c = one_page
