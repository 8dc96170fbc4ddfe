-- The texts of orders.
use Rattle.std.proofs.Common.{◌≡◌, ◌≢◌, ℕ, List, refl}
use Rattle.std.specs.Prelude.{Result, Ok, Err, IfNone}
use Rattle.std.specs.Result.{result_ok}
use Rattle.evaluations.specs.declared.evaluation.Evaluation.{Evaluation}
use Rattle.evaluations.specs.declared.refusal.OrderRefusal.{OrderRefusal}
use Rattle.evaluations.specs.Orders.{order_text, IsOrder, IsReadOrder}
use Rattle.evaluations.proofs.Readings.{one_reading}

-- different orders have different texts
pub order_text_injective : (one other : List Evaluation) → IsOrder one → IsOrder other → order_text one ≡ order_text other → one ≡ other
order_text_injective one other is is_too same =
    let reading = one_reading (order_text one) (Ok one) (Ok other) (is, refl) (is_too, same) in
    cc

-- a text that is not read is the text of no order
pub no_order_read : (text : List ℕ) (result : Result (List Evaluation) OrderRefusal) → IsReadOrder text result → IfNone (result_ok result) ((order : List Evaluation) → IsOrder order → text ≢ order_text order)
no_order_read text (Ok order) is = tt
no_order_read text (Err refusal) is = λ order is_order same.
    let reading : Err refusal ≡ Ok order = one_reading text (Err refusal) (Ok order) is (is_order, same) in
    absurd (cc)
