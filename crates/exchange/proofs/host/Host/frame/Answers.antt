use Rattle.std.proofs.Common.{◌≡◌, ℕ, length, take, replicate, refl, ap, sym, subst, ◌∙◌, arith}
use Rattle.std.specs.Result.{IsOk}
use Rattle.least.specs.Least.{least_kind, least_form}
use Rattle.least.specs.Forms.{least_laws}
use Rattle.synopsis.proofs.Fits.{encode_ok, encode_front}
use Rattle.exchange.proofs.host.Host.frame.Goals as goal

pub unwrap-length-requires : goal.unwrap-length-requires
unwrap-length-requires c =
    let ok = c.encode.ensures.answer ∙ encode_ok least_kind least_laws refl (least_form c.args.self.now.value) (replicate 516 0) (omega arith) in
    subst IsOk (sym ok) refl

pub returns : goal.returns
returns c =
    let x = least_form c.args.self.now.value in
    let ok = c.encode.ensures.answer ∙ encode_ok least_kind least_laws refl x (replicate 516 0) (omega arith) in
    let u = c.unwrap-length.ensures in
    let n : c.unwrap-length.result ≡ length (least_kind.encoding x) = cc in
    c.truncate.ensures.items ∙ ap (take c.unwrap-length.result) c.from-frame.ensures.0 ∙ ap (λ (k : ℕ). take k c.encode.new.out) n ∙ ap (take (length (least_kind.encoding x))) c.encode.ensures.after ∙ encode_front least_kind least_laws refl x (replicate 516 0) (omega arith)
