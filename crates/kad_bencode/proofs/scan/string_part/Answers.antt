use Rattle.kad_bencode.proofs.Skipping.{awaits_string, string_behind, no_inside}
use Rattle.kad_bencode.proofs.scan.string_part.Goals as goal

pub returns-in-Some-clause-reads : goal.returns-in-Some-clause-reads
returns-in-Some-clause-reads c t b a i l d e =
    let w = awaits_string c.args.bytes.now t b c.args.at c.args.depth a (λ h. i) (λ h. l) (λ h. d) (λ h. e) in
    let r = c.in-Some.ensures.reads a.place w in
    string_behind c.args.bytes.now t b c.args.at c.args.depth a a.place _ c.in-Some.next a.open_ones r.within r.reached

pub returns-in-Some-two_end-clause-reads : goal.returns-in-Some-two_end-clause-reads
returns-in-Some-two_end-clause-reads c t b a i l d e =
    let w = awaits_string c.args.bytes.now t b c.args.at c.args.depth a (λ h. i) (λ h. l) (λ h. d) (λ h. e) in
    let r = c.in-Some-two_end.ensures.reads a.place w in
    string_behind c.args.bytes.now t b c.args.at c.args.depth a a.place _ c.in-Some-two_end.next a.open_ones r.within r.reached

pub returns-in-Ok-clause-reads : goal.returns-in-Ok-clause-reads
returns-in-Ok-clause-reads c t b a i l d e =
    let w = awaits_string c.args.bytes.now t b c.args.at c.args.depth a (λ h. i) (λ h. l) (λ h. d) (λ h. e) in
    let r = c.in-Ok.ensures.reads a.place w in
    string_behind c.args.bytes.now t b c.args.at c.args.depth a a.place _ c.in-Ok.next a.open_ones r.within r.reached

pub returns-in-Err-clause-reads : goal.returns-in-Err-clause-reads
returns-in-Err-clause-reads c t b a i l d e =
    let w = awaits_string c.args.bytes.now t b c.args.at c.args.depth a (λ h. i) (λ h. l) (λ h. d) (λ h. e) in
    no_inside c.args.bytes.now t b _ (c.in-Err.ensures.reads a.place w) c.in-Err.ensures.inside
