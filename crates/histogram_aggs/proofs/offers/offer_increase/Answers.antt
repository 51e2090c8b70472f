use Rattle.histogram_aggs.proofs.IncreaseSteps.{increase_more}
use Rattle.histogram_aggs.proofs.offers.offer_increase.Goals as goal

pub returns : goal.returns
returns c kind fields xs =
    rw c.in-Some.is (increase_more kind fields c.in-Some.at c.args.rises.now c.offer_rise.new.rises xs (record { start = c.args.window.now.start; row = c.args.row.now }) c.in_ok-offer_rise.ensures)
