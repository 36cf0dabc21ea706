-- The bytes of a page, piece by piece (own). Pieces are put together from the right, as `format!` does.
use Rattle.std.specs.Prelude.{ℕ, List, ◌++◌, codes}

-- up to the line of the title
unfoldable pub title_part : List ℕ → List ℕ
title_part name = codes "<!DOCTYPE html>\n<html>\n<head>\n<title>" ++ (name ++ codes "</title>\n")

-- from the end of the head to the heading
unfoldable pub heading_part : List ℕ → List ℕ
heading_part name = codes "</head>\n<body>\n<h1>" ++ (name ++ codes "</h1>\n")

-- an article up to its title
unfoldable pub article_part : List ℕ → List ℕ
article_part id = codes "<article id=\"post-" ++ (id ++ (codes "\">\n<h2><a href=\"/?p=" ++ (id ++ codes "\">")))

abbrev pub after_title : List ℕ
after_title = codes "</a></h2>\n"

abbrev pub after_content : List ℕ
after_content = codes "\n</article>\n"

abbrev pub end_part : List ℕ
end_part = codes "</body>\n</html>\n"

-- the fixed body of a status, by its line
unfoldable pub fixed_body : List ℕ → List ℕ
fixed_body line = codes "<!DOCTYPE html>\n<html>\n<body>\n<h1>" ++ (line ++ codes "</h1>\n</body>\n</html>\n")
