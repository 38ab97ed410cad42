-- `build_network::build` meets its contract: a refusal leaves both tables as they were, and past the checks `build_accepted` writes the network. Assumes nothing.
use Rattle.build_network.proofs.Answers.{network_left}
use Rattle.build_network.proofs.build.Goals as goal

pub returns : goal.returns
returns c =
    let a = c.args in
    let n = c.build_accepted-count in
    network_left a.coefficients.now a.choices.now a.rows.now a.taps.now n.new.rows n.new.taps n.result c.in_ok-check.ensures.answer n.ensures
