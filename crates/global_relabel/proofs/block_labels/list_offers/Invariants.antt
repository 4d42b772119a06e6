use Rattle.std.specs.Prelude.{◌≡◌, ℕ, ◌<◌, IsFalse, IsTrue, length}
use Rattle.block_split.specs.Split.{whole_of}
use Rattle.global_relabel.specs.Lowering.{AreOffersBelow, AreOffersTo, AreOffersTold, IsLowerSomewhere, AreTight, ComeDown, IsAboveTold, IsBorderOffered}
use Rattle.global_relabel.proofs.block_labels.list_offers.Given as goal

abbrev pub invariant-borders : goal.invariant-borders
invariant-borders l = record {
  room : length l.queue ≡ length l.labels;
  down : ComeDown (whole_of l.split.net.now l.split.parts.now) l.block (IsAboveTold (whole_of l.split.net.now l.split.parts.now) l.block l.told) l.fn.labels l.labels;
  tight : AreTight (whole_of l.split.net.now l.split.parts.now) l.block l.fn.labels → AreTight (whole_of l.split.net.now l.split.parts.now) l.block l.labels;
  offers : AreOffersTo (length l.labels) l.offers.items;
  told : AreOffersTold (whole_of l.split.net.now l.split.parts.now) l.block l.told l.offers.items;
  all : (k : ℕ) → k < l.j → IsBorderOffered (whole_of l.split.net.now l.split.parts.now) l.block l.labels l.told l.offers.items k;
  below : AreOffersBelow l.fn.labels l.offers.items;
  lower : IsTrue l.has_taken → IsLowerSomewhere l.fn.labels l.labels;
  same : IsFalse l.has_taken → l.labels ≡ l.fn.labels;
}
