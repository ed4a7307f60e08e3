-- The words that a line may begin with.
use Rattle.std.specs.Prelude.{ℕ, List, codes}
use Rattle.site_text.specs.declared.keyword.Keyword.{Keyword}
use Rattle.site_text.specs.declared.keyword.Keyword.TheVariants.{Site, Mode, CableType, Substation, Turbine, Bend, Obstacle, Corner, Charge, Closed, End}

-- the bytes of a keyword
abbrev pub keyword_text : Keyword → List ℕ
keyword_text Site = codes "site"
keyword_text Mode = codes "mode"
keyword_text CableType = codes "type"
keyword_text Substation = codes "substation"
keyword_text Turbine = codes "turbine"
keyword_text Bend = codes "bend"
keyword_text Obstacle = codes "obstacle"
keyword_text Corner = codes "corner"
keyword_text Charge = codes "charge"
keyword_text Closed = codes "closed"
keyword_text End = codes "end"
