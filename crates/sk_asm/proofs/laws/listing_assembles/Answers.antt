use Rattle.sk_asm.proofs.Listings.{listing_assembles}
use Rattle.sk_asm.proofs.laws.listing_assembles.Goals as goal

pub returns-clause-relation : goal.returns-clause-relation
returns-clause-relation c = listing_assembles
