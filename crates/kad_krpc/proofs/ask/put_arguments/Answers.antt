use Rattle.std.proofs.Common.{[], subst, sym}
use Rattle.kad_bencode.specs.declared.value.Value.TheVariants.{Dict}
use Rattle.kad_bencode.specs.Written.{Puts}
use Rattle.kad_bencode.proofs.Putting.{puts_same}
use Rattle.kad_krpc.specs.Asking.{arguments_of}
use Rattle.kad_bencode.specs.Spelling.{text_of}
use Rattle.kad_bencode.proofs.Folds.{text_of-dict}
use Rattle.kad_krpc.proofs.ask.put_arguments.Goals as goal

pub returns-in-GetPeers : goal.returns-in-GetPeers
returns-in-GetPeers c =
    subst (λ ask. Puts c.args.buf.now c.put_info_hash.new.buf c.args.at (text_of (Dict (arguments_of c.args.proof.now ask))) c.put_info_hash.result) (sym c.in-GetPeers.is) c.put_info_hash.ensures

pub returns-in-Other : goal.returns-in-Other
returns-in-Other c =
    subst (λ ask. Puts c.args.buf.now c.put_part.new.buf c.args.at (text_of (Dict (arguments_of c.args.proof.now ask))) c.put_part.result) (sym c.in-Other.is) (puts_same (text_of-dict []) c.put_part.ensures)
