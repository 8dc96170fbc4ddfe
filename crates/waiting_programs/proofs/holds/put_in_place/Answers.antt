-- The slot of its own is not one that the list names, and the slot that stood in its place is live until it is given up.
use Rattle.std.proofs.Common.{◌≡◌, get_or, arith}
use Rattle.waiting_programs.proofs.Exchanging.{put_all}
use Rattle.waiting_programs.proofs.holds.put_in_place.Goals as goal

pub returns : goal.returns
returns g c =
    let k = c.keep-own.ensures in
    let r = c.release.ensures in
    let shared = c.replace-shared.result in
    let found = c.replace-shared.ensures.value in
    let there = c.index-slots-place.is in
    let is : shared ≡ get_or c.args.slots.now c.args.place shared = cc in
    let done = put_all _ c.keep-own.new.self c.release.new.self c.args.slots.now c.args.place c.keep-own.result shared c.args.value c.requires.within is c.requires.held k.fresh k.value k.count k.others r.count r.value r.others c.requires.distinct in
    rw c.replace-shared.ensures.after (record {
      exchanged = done.0;
      values = done.1;
      distinct = done.2;
      spare = omega (arith, k.spare, r.spare);
    })
