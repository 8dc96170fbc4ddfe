use Rattle.std.proofs.Common.{◌≡◌, ◌∙◌, sym, ap, length, take, get_or, map, vec_items, List, ℕ, arith}
use Rattle.std.proofs.lemmas.List.{length_push}
use Rattle.std.proofs.lemmas.Iterator.Adapters.{YieldsList-from_vec}
use Rattle.std.proofs.lemmas.Iterator.Consumers.{YieldsList-turn}
use Rattle.program_text.proofs.Found.{one_more_text}
use Rattle.program_text.proofs.names.Names.build.Goals as goal

pub loop-text-preserved : goal.loop-text-preserved
loop-text-preserved c =
    let texts = c.args.texts in
    let given = c.into_iter-text-iterator.ensures.into_iter_gives in
    let road = YieldsList-from_vec {s = c.into_iter-text-iterator.result} texts (given.0 ∙ c.into_vec-text-items.ensures) (omega (arith, given.1, c.into_vec-text-items.result.ok.0, ap length c.into_vec-text-items.ensures)) in
    let turn = YieldsList-turn road c.loop-text.yielded c.loop-text.text-iterator c.loop-text.yielded_by c.next.result c.next.new.self c.in-Some.text c.in-Some.is c.next.ensures.steps in
    let key : vec_items c.into_vec.result ≡ c.in-Some.text = c.into_vec.ensures in
    let at : ℕ = length c.loop-text.yielded in
    ap (map vec_items) c.in_ok-insert.ensures.keys
    ∙ one_more_text vec_items texts c.loop-text.names.keys at c.into_vec.result c.requires.apart c.loop-text.invariant turn.0 (key ∙ turn.1 ∙ ap (λ (t : List ℕ). get_or texts at t) (sym key))
    ∙ ap (λ (n : ℕ). take n texts) (sym (length_push c.loop-text.yielded c.in-Some.text))
