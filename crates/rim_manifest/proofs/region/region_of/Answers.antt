use Rattle.std.proofs.Common.{refl, sym, true≢false}
use Rattle.rim_manifest.proofs.SameRegions.{region_is, region_is_not}
use Rattle.rim_manifest.proofs.region.region_of.Goals as goal

pub returns : goal.returns
returns c = let same = c.in-Some.ensures.value in region_is c.args.base c.args.end c.in-Some.region same.0 same.1

pub returns-in_default : goal.returns-in_default
returns-in_default c =
    region_is_not c.args.base c.args.end _ (λ fits. true≢false (sym (c.in_default.ensures.valid.1 fits))) refl refl
