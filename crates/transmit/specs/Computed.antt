-- What computes when a case is worked out: the definitions of this crate, opened behind one name.
use Rattle.transmit.specs.Report.{meant, stays, reported, reported_tmd3}
use Rattle.transmit.specs.Turn.{without, handing, with_fcs, finish, gather, release, give_back, send, ending, go_on, turn}

unfoldable pub computed_report : Unit {0}
unfolding meant stays reported reported_tmd3
computed_report = tt

unfoldable pub computed_turn : Unit {0}
unfolding without handing with_fcs finish gather release give_back send ending go_on turn
computed_turn = tt

unfoldable pub computed : Unit {0}
unfolding computed_report computed_turn
computed = tt
