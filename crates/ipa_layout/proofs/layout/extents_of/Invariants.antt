use Rattle.std.proofs.Common.{◌≡◌, ◌≤◌, drop}
use Rattle.refusal.specs.Answer.{with_front}
use Rattle.ipa_layout.specs.Layout.{extents_of}
use Rattle.ipa_layout.specs.inside.LayoutViews.{seen}
use Rattle.ipa_layout.specs.Files.{bytes_of_files}
use Rattle.ipa_layout.proofs.layout.extents_of.Given as goal

abbrev pub invariant-loop-number : goal.invariant-loop-number
invariant-loop-number l = record {
  items : l.item-items ≡ l.launch.items;
  few : l.pages ≤ 1048576;
  exact : with_front l.extents.items (extents_of l.launch.ram (seen l.dtb) (bytes_of_files l.files) l.number l.pages (drop l.number l.item-items))
      ≡ extents_of l.launch.ram (seen l.dtb) (bytes_of_files l.files) 0 0 l.launch.items;
}
