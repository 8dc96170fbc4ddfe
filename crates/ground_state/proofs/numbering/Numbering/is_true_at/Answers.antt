use Rattle.ground_state.proofs.Acting.{place_within, truth_at_place}
use Rattle.ground_state.proofs.numbering.Numbering.is_true_at.Goals as goal

pub get-requires : goal.get-requires
get-requires c = place_within c.args.self.now.0 c.args.self.now.1 c.args.state.now _ c.place_at.result c.requires.state c.place_at.ensures

pub returns : goal.returns
returns c = truth_at_place c.args.self.now.0 c.args.self.now.1 c.args.state.now _ c.place_at.result c.get.result c.place_at.ensures c.get.ensures
