use Rattle.std.proofs.Common.{◌≡◌, length}
use Rattle.base_image.specs.Kinds.{AreUnread}
use Rattle.base_image.proofs.files.file_images.Given as goal

abbrev pub invariant-loop-opened : goal.invariant-loop-opened
invariant-loop-opened g l = (length l.images.items ≡ l._opened) × AreUnread l.images.items
