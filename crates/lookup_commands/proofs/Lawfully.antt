-- The promises of the commands that look something up, and no more, are lawful.
use Rattle.std.proofs.Common.{ℕ, List, Option, Bool, inl, refl}
use Rattle.kad_words.specs.declared.command.LookWords.{LookWords}
use Rattle.item_store.specs.Items.{IsItem}
use Rattle.lookup_core.specs.declared.quest.AskKind.TheVariants.{FindNode, GetItem, GetPeers}
use Rattle.command_base.proofs.Exactly.{unread_not_bad}
use Rattle.command_base.proofs.Lawful.{Lawful}
use Rattle.command_base.proofs.Valued.{valued_lawful}
use Rattle.lookup_commands.specs.Got.{GetText, get_promise}
use Rattle.lookup_commands.specs.Looked.{LookupBegun, LookupText, lookup_promise}
use Rattle.lookup_commands.specs.Peered.{PeersBegun, PeersText, peers_promise}
use Rattle.lookup_commands.specs.Stored.{PutBegun, PutText, put_aim, put_promise}
use Rattle.lookup_commands.proofs.LastStray.{uncalled_not_last}
use Rattle.lookup_commands.proofs.Looking.{seeking_lawful}

pub lookup_lawful : (look : LookWords) → Lawful (lookup_promise look)
lookup_lawful look =
    seeking_lawful (record { kind = FindNode; look = look }) (λ called source link text. LookupText FindNode look called source link text) (λ called source link. LookupBegun FindNode look called source link)
    (λ called source link text t. t.ran.start) (λ called source link text t. t.no_last_stray) (λ called source link b. b)

pub peers_lawful : (look : LookWords) (announce : Option ℕ) (spread : Bool) → Lawful (peers_promise look announce spread)
peers_lawful look announce spread =
    seeking_lawful (record { kind = GetPeers; look = look }) (λ called source link text. PeersText look announce spread called source link text) (λ called source link. PeersBegun look announce spread called source link)
    (λ called source link text t. t.ran.start) (λ called source link text t. t.no_last_stray) (λ called source link b. inl b)

pub get_lawful : (look : LookWords) → Lawful (get_promise look)
get_lawful look =
    seeking_lawful (record { kind = GetItem; look = look }) (λ called source link text. GetText look called source link text) (λ called source link. LookupBegun GetItem look called source link)
    (λ called source link text t. t.ran.start) (λ called source link text t. t.no_last_stray) (λ called source link b. b)

pub put_lawful : (look : LookWords) (item : List ℕ) (spread : Bool) → Lawful (put_promise look item spread)
put_lawful look item spread =
    valued_lawful (IsItem item) (put_aim look item spread)
    (seeking_lawful (record { kind = GetItem; look = look }) (λ called source link text. PutText look item spread called source link text) (λ called source link. PutBegun look item spread called source link)
    (λ called source link text t. t.ran.start) (λ called source link text t. t.no_last_stray) (λ called source link b. inl b))
    refl (λ source number told same. unread_not_bad source number told same)
    (λ called link told same last. uncalled_not_last (record { kind = GetItem; look = look }) called link told same last) (λ source unsound. unsound)
