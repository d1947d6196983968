use Rattle.std.proofs.Common.{◌++◌, map, subst, sym, refl}
use Rattle.std.specs.Fmt.{decimal}
use Rattle.rim_desc.specs.Numbers.{in_order}
use Rattle.rmi_line.specs.inside.Left.{AreLeft}
use Rattle.rmi_line.proofs.reader.Words.numbers.Goals as goal

pub returns : goal.returns
returns c =
    let taken = c.each_number.ensures in
    record {
      found = λ others left.
          subst (λ ns. AreLeft c.args.self.now (map decimal ns ++ others)) (sym c.from_order.ensures.order) (taken.found others left);
      only = λ n others fit left. taken.only (in_order n) others (refl, fit) left;
    }
