use Rattle.shelf.proofs.Keeps.{admits}
use Rattle.shelf.proofs.shelver.reader_of.Goals as goal

pub reader-requires : goal.reader-requires
reader-requires g c = admits _ _
