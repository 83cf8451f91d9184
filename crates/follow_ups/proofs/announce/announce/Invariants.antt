use Rattle.std.proofs.Common.{◌≡◌, ◌≤◌, take}
use Rattle.kad_base.specs.Outside.{Grows}
use Rattle.follow_ups.specs.Announced.{announcements, asks_of}
use Rattle.follow_ups.proofs.Announcing.{Sends, words_at}
use Rattle.follow_ups.proofs.announce.announce.Given as goal

abbrev pub invariant-loop-contact : goal.invariant-loop-contact
invariant-loop-contact g l = record {
  sends : Grows (g.L.Link.told l.fn.link) (g.L.Link.told l.link) (Sends l.read_only l.proof l.fn.words.seed l.fn.words.place (announcements (asks_of l.said) (take l.contact-index l.found) l.tokens) l.sent);
  words : l.words ≡ words_at l.fn.words l.tokens l.found l.contact-index;
  few : l.sent ≤ l.contact-index;
  faults : g.L.Link.recv_faults l.link ≡ g.L.Link.recv_faults l.fn.link;
  refused : g.L.Link.send_faults l.fn.link ≤ g.L.Link.send_faults l.link;
  kept : g.L.Link.kept l.link ≡ g.L.Link.kept l.fn.link;
}
