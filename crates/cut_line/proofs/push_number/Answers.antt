use Rattle.std.proofs.Common.{◌≡◌, [], ◌∷◌, ◌++◌, length, ap, arith, length-append}
use Rattle.std.proofs.lemmas.Fmt.{length-decimal-le}
use Rattle.cut_line.proofs.push_number.Goals as goal

pub push_str-requires : goal.push_str-requires
unfolding lib.Utf8.encode
push_str-requires c =
    let digits = length-decimal-le 2 c.args.n (omega arith) (omega arith) (omega (arith, c.requires.small)) in
    let bytes : c.push.new.self.bytes ≡ c.args.line.now.bytes ++ 32 ∷ [] = c.push.ensures.bytes in
    (omega arith, omega (arith, digits, c.requires.room, ap length c.format.ensures.text, ap length bytes, length-append c.args.line.now.bytes (32 ∷ [])))
