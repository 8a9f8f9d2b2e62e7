-- The meaning of the program's own sites.
use Rattle.std.specs.Prelude.{List, map}
use Rattle.safety.specs.declared.site.Construct.{Construct as OwnConstruct}
use Rattle.safety.specs.declared.site.Construct.TheVariants as own
use Rattle.safety.specs.declared.site.Site.{Site as OwnSite}
use Rattle.safety.specs.Sites.{Construct, Prints, Relaxes, OpensOuter, Cancels, CancelsOuter, Calls, Uses, Site}

abbrev pub construct_of : OwnConstruct → Construct
construct_of own.Prints = Prints
construct_of own.Relaxes = Relaxes
construct_of own.OpensOuter = OpensOuter
construct_of own.Cancels = Cancels
construct_of own.CancelsOuter = CancelsOuter
construct_of (own.Calls f) = Calls f.now
construct_of (own.Uses x) = Uses x.now

abbrev pub site_of : OwnSite → Site
site_of s =
    record {
      construct = construct_of s.construct;
      span = s.span;
      atomic = s.atomic;
      outer = s.outer;
      in_any = s.in_any;
    }

abbrev pub sites_of_own : List OwnSite → List Site
sites_of_own ss = map site_of ss
